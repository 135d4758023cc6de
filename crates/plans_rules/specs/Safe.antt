-- When a plan is safe, and when the host is told: whatever the producers do, and wherever between
-- the steps. Profile.
use Rattle.std.specs.Prelude.{◌≡◌, ℕ, ◌/◌, ◌<◌, length, true, false, List, Some, slice_get}
use Rattle.std.specs.List.{AllByRecursion}
use Rattle.plans_rules.specs.declared.step.AnyPlace.TheVariants.{Old, New}
use Rattle.plans_rules.specs.declared.step.WhichSet.{WhichSet}
use Rattle.plans_rules.specs.declared.step.WhichSet.TheVariants.{Pending, Enabled}
use Rattle.plans_rules.specs.declared.step.Number.{Number}
use Rattle.plans_rules.specs.declared.setting.NumberSpot.{NumberSpot}
use Rattle.plans_rules.specs.declared.setting.NumberSpot.TheVariants.{InOld, InHand, InNew}
use Rattle.plans_rules.specs.declared.setting.RouteKind.TheVariants.{Routed}
use Rattle.plans_rules.specs.declared.step.AnyStep.{AnyStep}
use Rattle.plans_rules.specs.declared.step.AnyStep.TheVariants.{Zero, Take, Copy, Join, Put}
use Rattle.plans_rules.specs.Setting.{Setting}
use Rattle.plans_rules.specs.Machine.{AnyFlight, AnyMachine, stands_out, AnyHappening, all_happened, steps_in}
use Rattle.plans_rules.specs.Machine.AnyHappening.{Stores, Sends, Refetches}

-- A number is that of a producer; of one that is routed.
abbrev pub IsProducer : Setting → ℕ → Type 0
IsProducer d p = p < length d.producers

abbrev pub IsRouted : Setting → ℕ → Type 0
IsRouted d p = (p < length d.producers) × (slice_get d.producers p ≡ Some Routed)

-- Only producers store. One that is switched has nothing in flight, and its route comes into
-- force only by a step.
abbrev pub CanHappen : Setting → AnyHappening → Type 0
CanHappen d (Stores p by x) = IsProducer d p
CanHappen d (Sends p by x) = IsRouted d p
CanHappen d (Refetches p) = IsRouted d p
CanHappen d x = Unit {0}

-- What happens in a run of a plan: its steps, in order, and what else can happen.
pub record IsRun (d : Setting) (plan : List AnyStep) (run : List AnyHappening) : Type 0 where
  pub steps : steps_in run ≡ plan
  pub others : AllByRecursion (CanHappen d) run

-- How a run begins. All leads to the old place, and so does what is in flight, only of routed
-- producers; nobody is paused; what stands there is due; the hand is empty, and the old place is
-- not given back; notices go to the host where that is declared. What stands in the old place, and
-- in a new one that is not fresh, the numbers, what is in flight, what was seen or told before, and
-- where notices go that were not declared to go, are free.
pub record IsStartOfAny (d : Setting) (z : AnyMachine) : Type 0 where
  pub written : (p : ℕ) → IsProducer d p → z.written p ≡ Old
  pub in_force : (p : ℕ) → IsProducer d p → z.in_force p ≡ Old
  pub paused : (p : ℕ) → IsProducer d p → z.paused p ≡ false
  pub flights : AllByRecursion
      (λ (f : AnyFlight). IsRouted d f.producer × (f.place ≡ Old)) z.flights
  pub due : (s : WhichSet) (i : ℕ) → z.due s i ≡ z.old s i
  pub hand : (s : WhichSet) (i : ℕ) → z.hand s i ≡ false
  pub fresh : d.is_fresh ≡ true → (s : WhichSet) (i : ℕ) → z.new s i ≡ false
  pub freed : z.freed ≡ false
  pub strayed : z.strayed ≡ false
  pub noticed : d.notices_go ≡ true → z.noticed ≡ true

-- What a number is in a spot.
abbrev pub number_in : NumberSpot → Number → AnyMachine → ℕ
number_in spot n z = elim spot [
  | InOld ↦ z.old_number n
  | InHand ↦ z.hand_number n
  | InNew ↦ z.new_number n
]

-- How a move has to end, as to the words of the file. In the new place just what is due is
-- pending, and just what was enabled at the start is enabled; nothing is left in the sets of the
-- old place; the numbers are where they have to be, as they were, whatever they are elsewhere; all
-- leads to the new place; nothing reached the old one after it was given back; and if it was, and
-- its next owner takes its numbers over as they are, these are 0.
pub record IsMovedByAny (d : Setting) (start z : AnyMachine) : Type 0 where
  pub pending : (i : ℕ) → i / 64 < d.words → z.new Pending i ≡ z.due Pending i
  pub enabled : (i : ℕ) → i / 64 < d.words → z.new Enabled i ≡ start.old Enabled i
  pub none_left : (s : WhichSet) (i : ℕ) → i / 64 < d.words → z.old s i ≡ false
  pub numbers : (n : Number) → number_in d.number_to n z ≡ number_in d.number_from n start
  pub written : (p : ℕ) → IsProducer d p → z.written p ≡ New
  pub in_force : (p : ℕ) → IsProducer d p → z.in_force p ≡ New
  pub flights : AllByRecursion (λ (f : AnyFlight). f.place ≡ New) z.flights
  pub strayed : z.strayed ≡ false
  pub inherited : d.is_inherited ≡ true → z.freed ≡ true → (n : Number) → z.old_number n ≡ 0

-- A plan is safe: from every start, each of its runs ends so.
abbrev pub IsSafe : Setting → List AnyStep → Type 0
IsSafe d plan =
    (start : AnyMachine) (run : List AnyHappening) → IsStartOfAny d start → IsRun d plan run
    → IsMovedByAny d start (all_happened d run start)

-- Where an identity stands out in the new place, the host was told, now or earlier: it is told that
-- something stands out, and not which identity.
abbrev pub HostKnows : Setting → AnyMachine → Type 0
HostKnows d z =
    (i : ℕ) → i / 64 < d.words → stands_out d z.new z.new_number i ≡ true → z.told ≡ true

-- A plan tells its host: from every start, each of its runs ends so.
abbrev pub IsTold : Setting → List AnyStep → Type 0
IsTold d plan =
    (start : AnyMachine) (run : List AnyHappening) → IsStartOfAny d start → IsRun d plan run
    → HostKnows d (all_happened d run start)

-- Where a step names a word of a set, it is one of so many. A look, which changes no set, may be at
-- any word.
abbrev pub IsInFile : ℕ → AnyStep → Type 0
IsInFile words (Zero place s w) = w < words
IsInFile words (Take s w) = w < words
IsInFile words (Copy s w) = w < words
IsInFile words (Join s w) = w < words
IsInFile words (Put s w) = w < words
IsInFile words x = Unit {0}
