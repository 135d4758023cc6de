-- A move in any of its phases, and what a step makes of it.
use Rattle.std.specs.Prelude.{◌≡◌, ℕ, ◌+◌, Bool, true, false, if◌then◌else◌, Option, Some, None, is_none}
use Rattle.aia_vcpu.specs.Home.{Way, at_first}
use Rattle.aia_vcpu.specs.Home.Home.{OnWay}
use Rattle.aia_vcpu.specs.Plans.{steps_done, is_at_last}
use Rattle.aia_vcpu.specs.Phases.{Phase, following, begins, after_shared}
use Rattle.aia_vcpu.specs.Phases.Phase.{FirstPhase, ClosingPhase, DrainPhase, EnablePhase, LastPhase}
use Rattle.aia_move_values.specs.declared.turn.Next.{Next}
use Rattle.aia_move_values.specs.declared.turn.Next.TheVariants.{Again, Finished}
use Rattle.aia_move_values.specs.declared.turn.Outcome.{Outcome}
use Rattle.aia_vcpu_places.specs.Holds.{Hand}
use Rattle.aia_fabric_values.specs.World.{World}
use Rattle.aia_move_values.specs.declared.who.Who.{Who}
use Rattle.aia_move_values.specs.declared.who.KeptNumbers.{KeptNumbers}
use Rattle.aia_move_values.specs.Move.{Moving, width, MoveFits, Goes}
use Rattle.aia_move_values.specs.Targets.{PassAim, aims, has_unaimed, next_aim, one_aimed}
use Rattle.aia_move_values.specs.Landings.{OnceLanded}
use Rattle.aia_move_values.specs.Turns.{IsIn, IsAtAims, GoesOn, EndsAs}
use Rattle.aia_move_values.specs.PlanState.{PlanState, moving_of, phase_of}

-- ---- a plan and its phase

-- Whether it is in the phase of aims.
abbrev pub is_in_aim : PlanState → Bool
is_in_aim plan = is_none (phase_of plan)

-- A move is in the phase of the pending set, and all passed sources are aimed.
pub record IsInDrain (words : ℕ) (m : Moving) : Type 0 where
  pub phase : IsIn DrainPhase words m
  pub aimed : aims m ≡ false

-- The next step of a move, of files of so many words, is a step of this phase; None: it aims. The
-- pending set is carried once all passed sources are aimed.
abbrev pub NextStepIsOf : Option Phase → ℕ → Moving → Type 0
NextStepIsOf None words m = IsAtAims m
NextStepIsOf (Some DrainPhase) words m = IsInDrain words m
NextStepIsOf (Some phase) words m = IsIn phase words m

-- The next step of a plan, of files of so many words, is a step of the phase that it is in.
abbrev pub IsInPhase : ℕ → PlanState → Type 0
IsInPhase words plan = NextStepIsOf (phase_of plan) words (moving_of plan)

-- ---- a step

-- What is said of a plan that goes on, and of what one that is finished gives back.
abbrev pub MatchNext : {P : Type 0} → Next P → (P → Type 0) → (Outcome → Type 0) → Type 0
MatchNext (Again p) again finished = again p
MatchNext (Finished o) again finished = finished o

-- A passed source is aimed: the world stays, and of the move all but how many are aimed.
pub record GoesAiming (w : World) (m : Moving) (u : World) (t : Moving) : Type 0 where
  pub world : u ≡ w
  pub moved : t ≡ one_aimed m

-- The next access of a move is made: the move goes on, or is at its end.
abbrev pub Advances : World → Moving → World → Next PlanState → Type 0
Advances w m u next = MatchNext next (λ p. Goes w m u (moving_of p)) (λ o. EndsAs w m u o)

-- What a step makes of the world and of a move: where it aims, a passed source is aimed, and the
-- move goes on; elsewhere it makes the next access of the plan, once what lands before it has.
abbrev pub StepsTo : Option PassAim → World → Moving → World → Next PlanState → Type 0
StepsTo None w m u next = OnceLanded w m (λ landed. Advances landed m u next)
StepsTo (Some aim) w m u next = MatchNext next (λ p. GoesAiming w m u (moving_of p)) (λ o. ⊥)

-- ---- the beginning

-- A move of a way that begins, with this in the hand: no step is done.
abbrev pub begun : Who → Way → Hand → Moving
begun who way hand = record { who = who; home = OnWay way at_first; hand = hand }

-- What a move carries that carries nothing; and one that has the numbers that were kept.
abbrev pub empty_hand : Hand
empty_hand = record { word = 0; delivery = 0; threshold = 0; seen = false }

abbrev pub kept_hand : KeptNumbers → Hand
kept_hand kept =
    record empty_hand { delivery = kept.delivery; threshold = kept.threshold }

-- ---- a step of a phase

-- A step of this phase is done, and the next one can be. Stores in flight land before only one
-- step, the fence of the entry, which belongs to the first phase.
abbrev pub GoesOnIn : Phase → World → Moving → World → Moving → Type 0
GoesOnIn FirstPhase w m u t = OnceLanded w m (λ landed. GoesOn landed m u t)
GoesOnIn phase w m u t = GoesOn w m u t

-- The phase before which all accesses of a phase are made; none is in the phase of aims.
abbrev pub past_phase : Option Phase → Phase
past_phase None = DrainPhase
past_phase (Some phase) = following phase

-- Whether a phase is the last one.
abbrev pub is_last : Option Phase → Bool
is_last (Some LastPhase) = true
is_last phase = false

-- The next step of a move, of which `NextStepIsOf` says that it is one of this phase, is the last
-- one of it, in files of so many words: so many steps are done, with it, as come before the next
-- phase.
abbrev pub IsLastOf : Phase → ℕ → Moving → Type 0
IsLastOf phase words m = steps_done m.home + 1 ≡ begins words m.home (following phase)

-- A step of this phase, as `NextStepIsOf` says before it, is done, with whether the one after it is
-- of the phase too; else it was the last one. None: no access is made in the phase of aims.
abbrev pub GoesInPhase : Option Phase → Bool → World → Moving → World → Moving → Type 0
GoesInPhase None stays w m u t = ⊥
GoesInPhase (Some phase) true w m u t =
    GoesOnIn phase w m u t × NextStepIsOf (Some phase) (width u) t
GoesInPhase (Some phase) false w m u t = GoesOnIn phase w m u t × IsLastOf phase (width w) m

-- The phase that a move is in once the G-stage record is in force, and after each aim: that of aims
-- while a passed source is to be aimed.
abbrev pub past_closing : Moving → Option Phase
past_closing m = if has_unaimed m then None else Some DrainPhase

-- The phase that a plan comes to from this one, with the last of its steps, or with an aim. The
-- move is as that step leaves it. After the looks comes the last phase. Past the last one there is
-- none: a plan that makes the last step of that one is at its end, and nothing asks for this.
abbrev pub next_phase : Moving → Option Phase → Option Phase
next_phase m None = past_closing m
next_phase m (Some FirstPhase) = Some ClosingPhase
next_phase m (Some ClosingPhase) = past_closing m
next_phase m (Some DrainPhase) = Some EnablePhase
next_phase m (Some EnablePhase) = Some (after_shared m.home)
next_phase m (Some phase) = Some LastPhase

-- ---- a step in place: the plan is changed where it lies

-- A step of a move that goes on: where it aims, a passed source is aimed; elsewhere its next access
-- is made, once what lands before it has.
abbrev pub GoesTo : Option PassAim → World → Moving → World → Moving → Type 0
GoesTo None w m u t = OnceLanded w m (λ landed. Goes landed m u t)
GoesTo (Some aim) w m u t = GoesAiming w m u t

-- Whether a step was made in place. If so, it was the next one, and the one after it can be made;
-- if not, nothing is changed, and the next step is the last one.
abbrev pub GoesInPlace : Bool → World → Moving → World → Moving → Type 0
GoesInPlace true w m u t = GoesTo (next_aim m) w m u t × MoveFits u t
GoesInPlace false w m u t = (u ≡ w) × (t ≡ m) × (is_at_last (width w) m.home ≡ true)

-- The same of a plan; the step after it is a step of the phase that the plan then is in.
abbrev pub StepsInPlace : Bool → World → PlanState → World → PlanState → Type 0
StepsInPlace true w plan u later = StepsTo (next_aim (moving_of plan)) w (moving_of plan) u
    (Again later)
    × MoveFits u (moving_of later)
    × IsInPhase (width u) later
StepsInPlace false w plan u later = (u ≡ w) × (later ≡ plan)
    × (is_at_last (width w) (moving_of plan).home ≡ true)
