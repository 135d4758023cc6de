-- What a run does to one bit of one set, one number and the routes of one producer. Profile.
use Rattle.std.specs.Prelude.{◌≡◌, ℕ, ◌/◌, Bool, true, false, not, ◌&&◌, ◌||◌, nat_eq, List, [], ◌∷◌, Option, Some, None}
use Rattle.plans_rules.specs.declared.step.WhichSet.{WhichSet}
use Rattle.plans_rules.specs.declared.step.AnyPlace.{AnyPlace}
use Rattle.plans_rules.specs.declared.step.AnyPlace.TheVariants.{Old, New}
use Rattle.plans_rules.specs.declared.step.AnyStep.{AnyStep}
use Rattle.plans_rules.specs.declared.step.AnyStep.TheVariants as steps
use Rattle.plans_rules.specs.declared.setting.NumberSpot.TheVariants.{InOld, InHand, InNew}
use Rattle.plans_rules.specs.declared.setting.Terms.{Terms}
use Rattle.plans_rules.specs.Setting.{is_old, is_pending, same_bank, same_number, same_spot}
use Rattle.plans_rules.specs.Machine.{AnyFlight, AnyMachine}
use Rattle.plans_counterexamples.specs.declared.trace.Begin.{Begin}
use Rattle.plans_counterexamples.specs.declared.trace.Begin.TheVariants as begins
use Rattle.plans_counterexamples.specs.declared.trace.Case.{Case}
use Rattle.plans_counterexamples.specs.declared.trace.StoreRoute.{StoreRoute}
use Rattle.plans_counterexamples.specs.declared.trace.StoreRoute.TheVariants.{Written, InForce}
use Rattle.plans_counterexamples.specs.declared.trace.Trace.{Trace}

-- Whether a word of a set is that of the bit that is followed.
abbrev pub names_bit : Case → WhichSet → ℕ → Bool
names_bit c s w = same_bank s c.bank && nat_eq w (c.identity / 64)

-- Whether the bit stands in the old place at the start.
abbrev pub begins_old : Begin → Bool
begins_old begins.InOld = true
begins_old begin = false

-- Whether it stands in the new place then.
abbrev pub begins_new : Begin → Bool
begins_new begins.InNew = true
begins_new begin = false

-- What is followed, at the start, where numbers are left in the old place, or are not.
abbrev pub trace_first : Begin → Bool → Terms → Trace
trace_first begin left terms = record {
  old = begins_old begin;
  new = begins_new begin;
  hand = false;
  due = begins_old begin;
  old_number = left || same_spot terms.number_from InOld;
  new_number = same_spot terms.number_from InNew;
  hand_number = same_spot terms.number_from InHand;
  written = Old;
  in_force = Old;
  paused = false;
  flight = None;
  freed = false;
  strayed = false;
}

-- A store of the producer for the identity lands in a place.
abbrev pub trace_landed : Case → AnyPlace → Trace → Trace
trace_landed c place t = record t {
  old = (is_pending c.bank && is_old place) || t.old;
  new = (is_pending c.bank && not (is_old place)) || t.new;
  due = is_pending c.bank || t.due;
  strayed = t.strayed || (is_old place && t.freed);
}

-- What the producer makes of what is followed, unless it is paused.
abbrev pub unless_paused : Trace → Trace → Trace
unless_paused t made = elim t.paused [ true ↦ t | false ↦ made ]

-- It lands where a route leads, as it is written or in force; if the producer is paused it makes
-- none.
abbrev pub trace_stored : Case → StoreRoute → Trace → Trace
trace_stored c Written t = unless_paused t (trace_landed c t.written t)
trace_stored c InForce t = unless_paused t (trace_landed c t.in_force t)

-- ---- a step, told whether it is about the word, the number or the producer that is followed

-- The route is written, and leads to the new place.
abbrev pub trace_turned : Bool → Trace → Trace
trace_turned is_this t = elim is_this [ true ↦ record t { written = New } | false ↦ t ]

-- The store in flight, if there is one, lands.
abbrev pub flight_landed : Case → Option AnyPlace → Trace → Trace
flight_landed c None t = t
flight_landed c (Some place) t = trace_landed c place t

-- The route is put in force as it is written, once what is in flight has landed.
abbrev pub trace_fenced : Case → Bool → Trace → Trace
trace_fenced c is_this t = elim is_this [
  | true ↦ record (flight_landed c t.flight t) { in_force = t.written; flight = None }
  | false ↦ t
]

-- The route is written and in force at once.
abbrev pub trace_switched : Bool → Trace → Trace
trace_switched is_this t = elim is_this [
  | true ↦ record t { written = New; in_force = New }
  | false ↦ t
]

-- The producer is paused, once what is in flight has landed; it is resumed.
abbrev pub trace_paused : Case → Bool → Trace → Trace
trace_paused c is_this t = elim is_this [
  | true ↦ record (flight_landed c t.flight t) { flight = None; paused = true }
  | false ↦ t
]

abbrev pub trace_resumed : Bool → Trace → Trace
trace_resumed is_this t = elim is_this [ true ↦ record t { paused = false } | false ↦ t ]

-- The word is zeroed in a place.
abbrev pub trace_zeroed : AnyPlace → Bool → Trace → Trace
trace_zeroed Old is_this t = record t {
  old = not is_this && t.old;
  strayed = t.strayed || t.freed;
}
trace_zeroed New is_this t = record t { new = not is_this && t.new }

-- The word is taken from the old place.
abbrev pub trace_taken : Bool → Trace → Trace
trace_taken is_this t = record t {
  hand = (is_this && t.old) || (not is_this && t.hand);
  old = not is_this && t.old;
  strayed = t.strayed || t.freed;
}

-- The word is copied from the old place.
abbrev pub trace_copied : Bool → Trace → Trace
trace_copied is_this t = record t {
  hand = (is_this && t.old) || (not is_this && t.hand);
  strayed = t.strayed || t.freed;
}

-- What the hand has of the word is joined to the new place.
abbrev pub trace_joined : Bool → Trace → Trace
trace_joined is_this t = record t {
  new = (is_this && t.hand) || t.new;
  hand = not is_this && t.hand;
}

-- What the hand has of the word stands in the new place, and nothing else of it.
abbrev pub trace_put : Bool → Trace → Trace
trace_put is_this t = record t {
  new = (is_this && t.hand) || (not is_this && t.new);
  hand = not is_this && t.hand;
}

-- The number is zeroed in a place.
abbrev pub trace_zeroed_number : AnyPlace → Bool → Trace → Trace
trace_zeroed_number Old is_this t = record t {
  old_number = not is_this && t.old_number;
  strayed = t.strayed || t.freed;
}
trace_zeroed_number New is_this t = record t { new_number = not is_this && t.new_number }

-- The number is taken from the old place.
abbrev pub trace_taken_number : Bool → Trace → Trace
trace_taken_number is_this t = record t {
  hand_number = (is_this && t.old_number) || (not is_this && t.hand_number);
  old_number = not is_this && t.old_number;
  strayed = t.strayed || t.freed;
}

-- The number is copied from the old place.
abbrev pub trace_copied_number : Bool → Trace → Trace
trace_copied_number is_this t = record t {
  hand_number = (is_this && t.old_number) || (not is_this && t.hand_number);
  strayed = t.strayed || t.freed;
}

-- The number is put in the new place.
abbrev pub trace_put_number : Bool → Trace → Trace
trace_put_number is_this t = record t {
  new_number = (is_this && t.hand_number) || (not is_this && t.new_number);
}

-- What a step makes of all that is followed.
abbrev pub trace_after : Case → AnyStep → Trace → Trace
trace_after c (steps.Route p) t = trace_turned (nat_eq p c.producer) t
trace_after c (steps.Fence p) t = trace_fenced c (nat_eq p c.producer) t
trace_after c (steps.Switch p) t = trace_switched (nat_eq p c.producer) t
trace_after c (steps.Pause p) t = trace_paused c (nat_eq p c.producer) t
trace_after c (steps.Resume p) t = trace_resumed (nat_eq p c.producer) t
trace_after c (steps.Zero place s w) t = trace_zeroed place (names_bit c s w) t
trace_after c (steps.Take s w) t = trace_taken (names_bit c s w) t
trace_after c (steps.Copy s w) t = trace_copied (names_bit c s w) t
trace_after c (steps.Join s w) t = trace_joined (names_bit c s w) t
trace_after c (steps.Put s w) t = trace_put (names_bit c s w) t
trace_after c (steps.ZeroNumber place n) t = trace_zeroed_number place (same_number n c.number) t
trace_after c (steps.TakeNumber n) t = trace_taken_number (same_number n c.number) t
trace_after c (steps.CopyNumber n) t = trace_copied_number (same_number n c.number) t
trace_after c (steps.PutNumber n) t = trace_put_number (same_number n c.number) t
trace_after c steps.Free t = record t { freed = true; strayed = t.strayed || t.freed }
trace_after c step t = t

-- ---- a trace follows the machine

-- What the number is in a spot, by what is followed of that spot: 1, or else 0.
abbrev pub worth : Bool → ℕ
worth true = 1
worth false = 0

-- The stores in flight: the one of the producer that leads to a place, if there is one.
abbrev pub flights_by : Case → Option AnyPlace → List AnyFlight
flights_by c None = []
flights_by c (Some place) =
    record { producer = c.producer; place = place; identity = c.identity } ∷ []

-- The machine has of the bit, the number and the producer what is followed.
pub record Follows (c : Case) (t : Trace) (z : AnyMachine) : Type 0 where
  pub old : z.old c.bank c.identity ≡ t.old
  pub new : z.new c.bank c.identity ≡ t.new
  pub hand : z.hand c.bank c.identity ≡ t.hand
  pub due : z.due c.bank c.identity ≡ t.due
  pub old_number : z.old_number c.number ≡ worth t.old_number
  pub new_number : z.new_number c.number ≡ worth t.new_number
  pub hand_number : z.hand_number c.number ≡ worth t.hand_number
  pub written : z.written c.producer ≡ t.written
  pub in_force : z.in_force c.producer ≡ t.in_force
  pub paused : z.paused c.producer ≡ t.paused
  pub flights : z.flights ≡ flights_by c t.flight
  pub freed : z.freed ≡ t.freed
  pub strayed : z.strayed ≡ t.strayed
