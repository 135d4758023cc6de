-- The moves of virtual harts in the core: what is wanted, and what each call makes of it.
use Rattle.std.specs.Prelude.{◌≡◌, ℕ, ◌+◌, ◌-◌, ◌<◌, ◌≤◌, Bool, true, false, if◌then◌else◌, ◌∷◌, Option, Some, None, Result, Ok, Err}
use Rattle.aia_vcpu.specs.declared.place.GuestPlace.{GuestPlace}
use Rattle.aia_vcpu.specs.declared.rest.Rest.TheVariants.{Parked}
use Rattle.aia_vcpu.specs.Vms.{Vcpu, vcpu_of, slot_of, notice_hart}
use Rattle.aia_vcpu.specs.Aims.{aims_done}
use Rattle.aia_vcpu.specs.Home.{Home, is_moving, old_end, new_end}
use Rattle.aia_vcpu.specs.Plans.{is_at_last, plan_steps}
use Rattle.aia_vcpu.specs.Home.Home.{OnWay}
use Rattle.aia_vcpu.specs.Home.Way.{Outward, Inward, Across}
use Rattle.aia_vcpu_places.specs.Holds.{Hand}
use Rattle.aia_pool.specs.Leases.{Leases, IsFileThere, is_out, least_free, with_out}
use Rattle.aia_model.specs.declared.answer.Answer.{Answer}
use Rattle.aia_model.specs.declared.answer.Answer.TheVariants.{Okay, Done, Refused}
use Rattle.aia_model.specs.declared.answer.Answer.TheVariants as answers
use Rattle.aia_model.specs.declared.refusal.Refusal.{Refusal}
use Rattle.aia_model.specs.declared.refusal.Refusal.TheVariants as refusals
use Rattle.aia_model.specs.declared.line.Line.TheVariants as lines
use Rattle.aia_model.specs.Event.{History, file_words}
use Rattle.aia_model.specs.Event.Event.{Began}
use Rattle.aia_model.specs.Move.{WantedMove, wanted_move}
use Rattle.aia_model.specs.ReachOf.{in_force_of}
use Rattle.aia_model.specs.HomeOf.{home, guest_place}
use Rattle.aia_model.specs.Refusal.{refusal}
use Rattle.aia_model.specs.Answer.{answer, steps_of, step_taken}
use Rattle.aia_model.specs.Vms.{vms_of}
use Rattle.aia_model.specs.Passes.{passes_of, passes_to, passes_for}
use Rattle.aia_move_values.specs.Targets.{PassAim, next_aim}
use Rattle.aia_move_values.specs.declared.who.KeptNumbers.{KeptNumbers}
use Rattle.aia_move_values.specs.declared.who.Who.{Who}
use Rattle.aia_move_values.specs.declared.turn.Next.{Next}
use Rattle.aia_move_values.specs.declared.turn.Next.TheVariants.{Again, Finished}
use Rattle.aia_move_values.specs.declared.turn.Outcome.{Outcome}
use Rattle.aia_move_values.specs.declared.turn.Outcome.TheVariants.{Left, Arrived, Shifted}
use Rattle.aia_move_values.specs.Landings.{OnceLanded}
use Rattle.aia_move_values.specs.Move.{Moving, mover, width, MakesNext}
use Rattle.aia_fabric_values.specs.World.{World}
use Rattle.aia_model.specs.GuestFile.{guest_file}
use Rattle.aia_model.specs.Notice.{a_look_saw}
use Rattle.aia_move_values.specs.PlanState.{PlanState, moving_of}
use Rattle.aia_move_values.specs.Plan.{IsInPhase, begun, empty_hand, kept_hand, StepsInPlace}
use Rattle.aia_move_values.specs.Knows.{Knows}
use Rattle.aia_model.specs.declared.want.Want.{Want}
use Rattle.aia_model.specs.declared.want.Want.TheVariants as wants
use Rattle.aia_hyp_values.specs.Core.{Stay}
use Rattle.aia_hyp_values.specs.declared.vcpu.Stay.TheVariants as stays
use Rattle.aia_hyp_values.specs.Passes.{own_passes}
use Rattle.aia_hyp_values.specs.Core.{CoreState, record_of, home_in, parked_at}
use Rattle.aia_hyp_values.specs.Stands.{CoreStands}
use Rattle.aia_hyp_values.specs.Passes.{StepsAim}

-- ---- a move begins

-- A virtual hart is moved by a plan that has this move, whose next step is of the plan's phase,
-- whatever the size of files.
abbrev pub IsBegun : Stay → Moving → Type 0
IsBegun (stays.Moving plan) m = (moving_of plan ≡ m) × ((words : ℕ) → IsInPhase words plan)
IsBegun stay m = ⊥

-- Below, `old` and `new` are where a virtual hart is before and after, `was` and `now` the leases.
-- What begins is refused with a word, and nothing is changed.
abbrev pub Refuses : Refusal → Stay → Stay → Leases → Leases → Answer → Type 0
Refuses word old new was now given = (given ≡ Refused word) × (new ≡ old) × (now ≡ was)

-- A guest file of a hart is taken for the move that has such a home in it; where none is free, the
-- move is refused.
abbrev pub BeginsIn : Option ℕ → ℕ → (GuestPlace → Moving) → Stay → Stay → Leases → Leases → Answer
    → Type 0
BeginsIn None hart moving old new was now given =
    Refuses refusals.NoFile old new was now given
BeginsIn (Some file) hart moving old new was now given = (given ≡ Okay)
    × IsBegun new (moving (guest_place hart file))
    × (now ≡ with_out was (guest_place hart file) true)

-- An arrival, by `parked_at` of where the virtual hart is: it begins with the numbers that are kept
-- of one that is parked; any other is refused with its word.
abbrev pub ArriveFrom : Result KeptNumbers Refusal → Who → ℕ → Stay → Stay → Leases → Leases
    → Answer → Type 0
ArriveFrom (Ok kept) who hart old new was now given =
    BeginsIn (least_free was hart) hart (λ to. begun who (Inward to) (kept_hand kept))
    old new was now given
ArriveFrom (Err word) who hart old new was now given = Refuses word old new was now given

-- What becomes of where a virtual hart is, as it is to leave its guest file, to arrive in one of a
-- hart that is there, or to shift to one; and of the leases.
abbrev pub LeaveBegins : Who → Stay → Stay → Leases → Leases → Answer → Type 0
LeaveBegins who (stays.Resident from) new was now given = (given ≡ Okay)
    × IsBegun new (begun who (Outward from) empty_hand)
    × (now ≡ was)
LeaveBegins who (stays.InMemory rest kept) new was now given =
    Refuses refusals.Parked (stays.InMemory rest kept) new was now given
LeaveBegins who (stays.Moving plan) new was now given =
    Refuses refusals.Busy (stays.Moving plan) new was now given

abbrev pub ArriveBegins : Who → ℕ → Stay → Stay → Leases → Leases → Answer → Type 0
ArriveBegins who hart old new was now given =
    ArriveFrom (parked_at old) who hart old new was now given

abbrev pub ShiftBegins : Who → ℕ → Stay → Stay → Leases → Leases → Answer → Type 0
ShiftBegins who hart (stays.Resident from) new was now given =
    BeginsIn (least_free was hart) hart (λ to. begun who (Across from to) empty_hand)
    (stays.Resident from) new was now given
ShiftBegins who hart (stays.InMemory rest kept) new was now given =
    Refuses refusals.Parked (stays.InMemory rest kept) new was now given
ShiftBegins who hart (stays.Moving plan) new was now given =
    Refuses refusals.Busy (stays.Moving plan) new was now given

-- Of what is wanted: a hart that isn't there is out of range.
abbrev pub OnHart : ℕ → Stay → Stay → Leases → Leases → Answer → Type 0 → Type 0
OnHart hart old new was now given begins = (hart < was.harts → begins)
    × (was.harts ≤ hart → Refuses refusals.Range old new was now given)

abbrev pub WantBegins : Want → Who → Stay → Stay → Leases → Leases → Answer → Type 0
WantBegins wants.Leave who old new was now given = LeaveBegins who old new was now given
WantBegins (wants.Arrive hart) who old new was now given =
    OnHart hart old new was now given (ArriveBegins who hart old new was now given)
WantBegins (wants.Shift hart) who old new was now given =
    OnHart hart old new was now given (ShiftBegins who hart old new was now given)

-- What has happened when a move is to begin, by the refusal of its line.
abbrev pub move_begun : Option Answer → History → WantedMove → History
move_begun None h move = Began move ∷ h
move_begun (Some word) h move = h

-- A move that is to begin is refused as its line is, and the core is then unchanged; else the move
-- has begun.
pub record MoveBegins (old new : CoreState) (vm vcpu : ℕ) (want : Want) (given : Answer)
    : Type 0 where
  pub answers : (h : History) → CoreStands old h → given ≡ answer h (lines.Move vm vcpu want)
  pub begins : (h : History) → CoreStands old h
      → CoreStands new (move_begun (refusal h (lines.Move vm vcpu want)) h
      (wanted_move (vcpu_of vm vcpu) want))
  pub unchanged : (h : History) (word : Answer) → CoreStands old h
      → refusal h (lines.Move vm vcpu want) ≡ Some word → new ≡ old

-- ---- a step of it

-- Where a virtual hart is at the end of its move, and the guest file that it gives back.
abbrev pub stay_after : Outcome → Stay
stay_after (Left file kept) = stays.InMemory Parked kept
stay_after (Arrived file) = stays.Resident file
stay_after (Shifted old new) = stays.Resident new

abbrev pub back_of : Outcome → Option GuestPlace
back_of (Left file kept) = Some file
back_of (Arrived file) = None
back_of (Shifted old new) = Some old

-- A guest file comes back, where one does; it is there, and out.
abbrev pub with_back : Option GuestPlace → Leases → Leases
with_back None l = l
with_back (Some p) l = with_out l p false

abbrev pub IsOutThere : Leases → Option GuestPlace → Type 0
IsOutThere l None = Unit {0}
IsOutThere l (Some p) = IsFileThere l p × (is_out l p ≡ true)

-- What a step of a plan makes: where the virtual hart is then, which file comes back, and whether
-- the move is at its end.
abbrev pub stay_then : Next PlanState → Stay
stay_then (Again plan) = stays.Moving plan
stay_then (Finished outcome) = stay_after outcome

abbrev pub back_then : Next PlanState → Option GuestPlace
back_then (Again plan) = None
back_then (Finished outcome) = back_of outcome

abbrev pub is_finished : Next PlanState → Bool
is_finished (Again plan) = false
is_finished (Finished outcome) = true

-- What a step of a move is answered, by whether it was the last one.
abbrev pub step_answer : Bool → Answer
step_answer last = if last then Done else answers.Moving

-- How many steps of its move are left, those that aim aside.
abbrev pub steps_left : ℕ → Home → ℕ
steps_left words (OnWay way at) = plan_steps (old_end way) (new_end way) words - at.steps
steps_left words there = 0

-- The same with those that aim, of a virtual hart in the core.
abbrev pub left_in : CoreState → Vcpu → ℕ
left_in x g = steps_left (width x.world) (home_in (record_of x g).stay)
    + (passes_to g x.passes - aims_done (home_in (record_of x g).stay))

-- One access of a move is made, whatever the move then carries, once what lands before it has
-- landed; and nothing else of the world is changed. A step that aims leaves the world as it is.
abbrev pub MakesOneBy : Option PassAim → World → Moving → World → Type 0
MakesOneBy None w m u = OnceLanded w m (λ landed. (hand : Hand) × MakesNext landed m u hand)
MakesOneBy (Some aim) w m u = u ≡ w

abbrev pub MakesOne : World → Moving → World → Type 0
MakesOne w m u = MakesOneBy (next_aim m) w m u

-- What a plan knows of a virtual hart that is being moved: the plan is its own, at the home that
-- the history gives, and knows the world, its places with its interrupt file, as the history gives
-- it.
pub record KnowsIts (x : CoreState) (h : History) (g : Vcpu) (plan : PlanState) : Type 0 where
  pub own : mover (moving_of plan) ≡ g
  pub same_home : (moving_of plan).home ≡ home h g
  pub knows : Knows x.world plan (in_force_of h g) (guest_file h g) (a_look_saw h g)

-- What a plan is told of a virtual hart is as a history has it: who it is, with what is passed to
-- it, and where it is.
pub record IsToldOf (h : History) (g : Vcpu) (m : Moving) : Type 0 where
  pub own : mover m ≡ g
  pub same_home : m.home ≡ home h g
  pub slot : m.who.found.slot ≡ slot_of (vms_of h) g
  pub notice : m.who.found.notice ≡ notice_hart (vms_of h) g
  pub passes : m.who.passes.items ≡ own_passes 0 g (passes_of h)

-- What a step in place makes of where a virtual hart is, and of the world: what its plan makes;
-- nothing, where it has none.
abbrev pub StaysInPlace : Bool → World → Stay → World → Stay → Type 0
StaysInPlace made w (stays.Moving plan) u new =
    (later : PlanState) × (new ≡ stays.Moving later) × StepsInPlace made w plan u later
StaysInPlace made w stay u new = (made ≡ false) × (u ≡ w) × (new ≡ stay)

-- What is so of a line that is not refused, and what of one that is.
abbrev pub UnlessRefused : Option Answer → Type 0 → Type 0 → Type 0
UnlessRefused None taken refused = taken
UnlessRefused (Some word) taken refused = refused

-- What a whole move makes of the targets: each of its steps in turn.
abbrev pub WholeAims : {T : Type 0} → (T → ℕ → ℕ → T → Type 0) → History → ℕ → ℕ → Want → T → T
    → Type 0
WholeAims aim h vm vcpu want old new =
    StepsAim aim (steps_of (file_words h) (wanted_move (vcpu_of vm vcpu) want)
    + passes_for h (vcpu_of vm vcpu)) (vcpu_of vm vcpu)
    (Began (wanted_move (vcpu_of vm vcpu) want) ∷ h) old new

-- A step of the move of a virtual hart is done, and what lands before it has landed; whether it was
-- the last one.
pub record MoveGoes (old new : CoreState) (g : Vcpu) (last : Bool) : Type 0 where
  pub stands : (h : History) → CoreStands old h → CoreStands new (step_taken g h)
  pub at_last : (h : History) → CoreStands old h → last ≡ is_at_last (file_words h) (home h g)
  pub moving : last ≡ false → is_moving (home_in (record_of new g).stay) ≡ true
  pub fewer : last ≡ false → left_in new g < left_in old g
  pub makes : (plan : PlanState) → (record_of old g).stay ≡ stays.Moving plan
      → MakesOne old.world (moving_of plan) new.world

-- The next step of the plan of a virtual hart that is being moved is its last one.
abbrev pub IsAtItsLast : CoreState → Vcpu → Type 0
IsAtItsLast c g = (plan : PlanState) → (record_of c g).stay ≡ stays.Moving plan
    → is_at_last (width c.world) (moving_of plan).home ≡ true

-- Where a step of a move was made in place, it was not the move's last; else nothing is changed,
-- and its next step is the last one.
abbrev pub MoveInPlace : CoreState → CoreState → Vcpu → Bool → Type 0
MoveInPlace old new g true = MoveGoes old new g false
MoveInPlace old new g false = (new ≡ old) × IsAtItsLast old g
