-- What a step of a plan does: it goes on, or the move ends.
use Rattle.std.specs.Prelude.{◌≡◌, ℕ, ◌+◌, ◌<◌, ◌≤◌, Bool, true, Option, Some}
use Rattle.aia_vcpu.specs.Phases.{Phase, following, begins}
use Rattle.aia_file.specs.InterruptFile.{InterruptFile}
use Rattle.aia_file.specs.FileState.{shown}
use Rattle.aia_file.specs.Imsic.{file_at}
use Rattle.aia_vcpu.specs.declared.place.GuestPlace.{GuestPlace}
use Rattle.aia_vcpu.specs.Home.{Home}
use Rattle.aia_vcpu.specs.Home.Home.{OnWay}
use Rattle.aia_vcpu.specs.Home.Way.{Outward, Inward, Across}
use Rattle.aia_vcpu.specs.Plans.{steps_done}
use Rattle.aia_vcpu.specs.BySteps.{old_file}
use Rattle.aia_vcpu_places.specs.Holds.{Hand, Holds, IsEmpty}
use Rattle.aia_fabric_values.specs.World.{World}
use Rattle.aia_fabric_values.specs.Changes.{spot_of}
use Rattle.aia_move_values.specs.Views.{places_of}
use Rattle.aia_move_values.specs.declared.turn.Turn.{Turn}
use Rattle.aia_move_values.specs.declared.turn.Turn.TheVariants.{Stay, On}
use Rattle.aia_move_values.specs.declared.turn.Closed.{Closed}
use Rattle.aia_move_values.specs.declared.turn.Closed.TheVariants as closed
use Rattle.aia_move_values.specs.declared.turn.Outcome.{Outcome}
use Rattle.aia_move_values.specs.declared.turn.Outcome.TheVariants.{Left, Arrived, Shifted}
use Rattle.aia_move_values.specs.Move.{Moving, mover, width, MoveFits, Goes, Ends}
use Rattle.aia_move_values.specs.Targets.{aims, one_aimed}

-- At least the first number of a move's steps are done, and fewer than the other.
abbrev pub IsBetween : ℕ → ℕ → Moving → Type 0
IsBetween first past m = (first ≤ steps_done m.home) × (steps_done m.home < past)

-- A move is in a phase of its plan, of files of so many words: it has come to the phase, and not to
-- the one that follows.
abbrev pub IsIn : Phase → ℕ → Moving → Type 0
IsIn phase words m =
    IsBetween (begins words m.home phase) (begins words m.home (following phase)) m

-- A move is at its aims: its next step aims a passed source.
abbrev pub IsAtAims : Moving → Type 0
IsAtAims m = aims m ≡ true

-- A step is done, and the next one can be.
pub record GoesOn (w : World) (m : Moving) (u : World) (t : Moving) : Type 0 where
  pub goes : Goes w m u t
  pub fits : MoveFits u t
  pub width : width u ≡ width w
  pub steps : steps_done t.home ≡ steps_done m.home + 1

-- A passed source is aimed, and nothing else is done; the next step can be.
pub record AimsOn (w : World) (m t : Moving) : Type 0 where
  pub moved : t ≡ one_aimed m
  pub fits : MoveFits w t

-- What the end of a move gives back: its files, and what is kept of the one that was left.
abbrev pub GivesBack : Outcome → Home → Hand → Type 0
GivesBack (Left file kept) (OnWay (Outward from) at) hand =
    (file ≡ from) × (kept.delivery ≡ hand.delivery) × (kept.threshold ≡ hand.threshold)
GivesBack (Arrived file) (OnWay (Inward to) at) hand = file ≡ to
GivesBack (Shifted old new) (OnWay (Across from to) at) hand = (old ≡ from) × (new ≡ to)
GivesBack outcome there hand = ⊥

-- The last step is done, with which nothing more is taken, and the outcome is that of the move.
pub record EndsAs (w : World) (m : Moving) (u : World) (outcome : Outcome) : Type 0 where
  pub ends : Ends w m u m.hand
  pub gives : GivesBack outcome m.home m.hand

-- The file that the move leaves, where it leaves one, is empty after its last step, where the
-- places of the virtual hart held an interrupt file before it.
abbrev pub LeavesEmpty : World → Moving → World → Type 0
LeavesEmpty w m u = (reach : Option GuestPlace) (file : InterruptFile) (saw : Bool) (p : GuestPlace)
    → old_file m.home ≡ Some p
    → Holds (width w) m.who.found.slot m.who.found.notice reach (places_of w (mover m) m.home)
    m.home m.hand file saw
    → IsEmpty (shown (file_at u.imsic (spot_of p)))

-- What is said of a state that stays in its phase, and of one that goes on to the next.
abbrev pub MatchTurn : {S T : Type 0} → Turn S T → (S → Type 0) → (T → Type 0) → Type 0
MatchTurn (Stay s) stays goes = stays s
MatchTurn (On t) stays goes = goes t

-- What is said of a state whose next step aims, and of one past the phase of aims.
abbrev pub MatchClosed : {A N : Type 0} → Closed A N → (A → Type 0) → (N → Type 0) → Type 0
MatchClosed (closed.Aim a) aims past = aims a
MatchClosed (closed.Aimed n) aims past = past n
