-- The machine on which a plan is tried: an old place and a new one, a hand between them, the routes
-- of the producers, and all that these may do before, between and after the steps. Profile.
use Rattle.std.specs.Prelude.{ℕ, zero, suc, ◌*◌, ◌+◌, ◌/◌, Bool, true, false, not, ◌&&◌, ◌||◌, nat_eq, nat_lt, if◌then◌else◌, List, [], ◌∷◌, Option, Some, None, slice_get}
use Rattle.plans_rules.specs.declared.step.AnyPlace.{AnyPlace}
use Rattle.plans_rules.specs.declared.step.AnyPlace.TheVariants.{Old, New}
use Rattle.plans_rules.specs.declared.step.WhichSet.{WhichSet}
use Rattle.plans_rules.specs.declared.step.WhichSet.TheVariants.{Pending, Enabled}
use Rattle.plans_rules.specs.declared.step.Number.{Number}
use Rattle.plans_rules.specs.declared.step.Number.TheVariants.{Threshold, Delivery}
use Rattle.plans_rules.specs.declared.step.AnyStep.{AnyStep}
use Rattle.plans_rules.specs.declared.step.AnyStep.TheVariants.{Route, Fence, Switch, Pause, Resume, Zero, Take, Copy, Join, Put, ZeroNumber, TakeNumber, CopyNumber, PutNumber, Look, Post, Tell, Untell, WriteNotice, Free}
use Rattle.plans_rules.specs.Setting.{Setting, is_old, is_pending, same_number, names, any_below}

-- For each set the identities that stand in it.
abbrev pub Sets : Type 0
Sets = WhichSet → ℕ → Bool

-- A store in flight: whose it is, the place where it will land, and what it asks for.
pub record AnyFlight : Type 0 where
  pub producer : ℕ
  pub place : AnyPlace
  pub identity : ℕ

-- All that a plan and the producers change.
pub record AnyMachine : Type 0 where
  pub old : Sets
  pub new : Sets
  -- what was taken or copied: any number of words
  pub hand : Sets
  -- what stood in the old place at the start, and what stores that have landed since asked for
  pub due : Sets
  pub old_number : Number → ℕ
  pub new_number : Number → ℕ
  pub hand_number : Number → ℕ
  -- where each producer's route leads as it is written, and as it is in force
  pub written : ℕ → AnyPlace
  pub in_force : ℕ → AnyPlace
  -- whether each is paused, and stores nothing
  pub paused : ℕ → Bool
  pub flights : List AnyFlight
  -- whether the old place was given back, and whether anything reached it after that, a second time
  -- that it is given back too
  pub freed : Bool
  pub strayed : Bool
  -- whether the notices of the new place go to the host
  pub noticed : Bool
  -- whether a look saw something, and whether the host was told
  pub seen : Bool
  pub told : Bool

-- ---- what stands out

-- Whether delivery and threshold let an identity through, where they are heeded.
-- AIA 1.0, IMSIC: a threshold of 0 lets all through, another one those below it.
abbrev pub lets_out : Setting → (Number → ℕ) → ℕ → Bool
lets_out d numbers i = elim d.heeds [
  | true ↦ nat_eq (numbers Delivery) 1
      && (nat_eq (numbers Threshold) 0 || nat_lt i (numbers Threshold))
  | false ↦ true
]

-- Whether an identity is pending and enabled in these sets, and let through.
abbrev pub stands_out : Setting → Sets → (Number → ℕ) → ℕ → Bool
stands_out d sets numbers i = sets Pending i && (sets Enabled i && lets_out d numbers i)

-- Whether an identity of a word stands out.
abbrev pub word_stands_out : Setting → Sets → (Number → ℕ) → ℕ → Bool
word_stands_out d sets numbers w = any_below (λ b. stands_out d sets numbers (64 * w + b)) 64

-- Whether any identity of the file does.
abbrev pub any_stands_out : Setting → Sets → (Number → ℕ) → Bool
any_stands_out d sets numbers = any_below (word_stands_out d sets numbers) d.words

-- ---- a store lands

-- Sets with an identity pending, if the store lands here.
abbrev pub with_one : Bool → ℕ → Sets → Sets
with_one here x sets t i = ((is_pending t && nat_eq x i) && here) || sets t i

-- What a store for an identity makes of the machine as it lands: in the new place it tells the
-- host, if notices go there and the identity is enabled in that place and let through.
abbrev pub landed : Setting → AnyPlace → ℕ → AnyMachine → AnyMachine
landed d place x z = record z {
  old = with_one (is_old place) x z.old;
  new = with_one (not (is_old place)) x z.new;
  due = with_one true x z.due;
  strayed = z.strayed || (is_old place && z.freed);
  told = z.told
      || (not (is_old place) && (z.noticed && (z.new Enabled x && lets_out d z.new_number x)));
}

-- The same of a store that was in flight.
abbrev pub flight_landed : Setting → AnyFlight → AnyMachine → AnyMachine
flight_landed d f z = landed d f.place f.identity z

-- Stores that were in flight land, the first of a list first.
abbrev pub all_landed : Setting → List AnyFlight → AnyMachine → AnyMachine
all_landed d [] z = z
all_landed d (f ∷ later) z = all_landed d later (flight_landed d f z)

-- The flights of a producer, and those of the others.
abbrev pub flights_of : ℕ → List AnyFlight → List AnyFlight
flights_of p [] = []
flights_of p (f ∷ later) =
    if nat_eq p f.producer then f ∷ flights_of p later else flights_of p later

abbrev pub flights_beside : ℕ → List AnyFlight → List AnyFlight
flights_beside p [] = []
flights_beside p (f ∷ later) =
    if nat_eq p f.producer then flights_beside p later else f ∷ flights_beside p later

-- ---- a step

-- Sets without a word of one of them.
abbrev pub without : WhichSet → ℕ → Sets → Sets
without s w sets t i = not (names s w t (i / 64)) && sets t i

-- That word of one set, with no other identity.
abbrev pub only : WhichSet → ℕ → Sets → Sets
only s w sets t i = names s w t (i / 64) && sets t i

-- Sets that are joined.
abbrev pub both : Sets → Sets → Sets
both a b t i = a t i || b t i

-- The routes, with that of a producer to a place.
abbrev pub led_to : ℕ → AnyPlace → (ℕ → AnyPlace) → ℕ → AnyPlace
led_to p place routes q = if nat_eq p q then place else routes q

-- Which producers are paused, with another answer for one.
abbrev pub with_paused : ℕ → Bool → (ℕ → Bool) → ℕ → Bool
with_paused p is paused q = if nat_eq p q then is else paused q

-- The numbers, with another value of one.
abbrev pub with_number : Number → ℕ → (Number → ℕ) → Number → ℕ
with_number n value numbers m = if same_number n m then value else numbers m

-- What a step makes of the machine.
abbrev pub stepped : Setting → AnyStep → AnyMachine → AnyMachine
stepped d (Route p) z = record z { written = led_to p New z.written }
stepped d (Fence p) z = record (all_landed d (flights_of p z.flights) z) {
  flights = flights_beside p z.flights;
  in_force = led_to p (z.written p) z.in_force;
}
stepped d (Switch p) z = record z {
  written = led_to p New z.written;
  in_force = led_to p New z.in_force;
}
stepped d (Pause p) z = record (all_landed d (flights_of p z.flights) z) {
  flights = flights_beside p z.flights;
  paused = with_paused p true z.paused;
}
stepped d (Resume p) z = record z { paused = with_paused p false z.paused }
stepped d (Zero Old s w) z = record z {
  old = without s w z.old;
  strayed = z.strayed || z.freed;
}
stepped d (Zero New s w) z = record z { new = without s w z.new }
stepped d (Take s w) z = record z {
  hand = both (only s w z.old) (without s w z.hand);
  old = without s w z.old;
  strayed = z.strayed || z.freed;
}
stepped d (Copy s w) z = record z {
  hand = both (only s w z.old) (without s w z.hand);
  strayed = z.strayed || z.freed;
}
stepped d (Join s w) z = record z {
  new = both (only s w z.hand) z.new;
  hand = without s w z.hand;
}
stepped d (Put s w) z = record z {
  new = both (only s w z.hand) (without s w z.new);
  hand = without s w z.hand;
}
stepped d (ZeroNumber Old n) z = record z {
  old_number = with_number n 0 z.old_number;
  strayed = z.strayed || z.freed;
}
stepped d (ZeroNumber New n) z = record z { new_number = with_number n 0 z.new_number }
stepped d (TakeNumber n) z = record z {
  hand_number = with_number n (z.old_number n) z.hand_number;
  old_number = with_number n 0 z.old_number;
  strayed = z.strayed || z.freed;
}
stepped d (CopyNumber n) z = record z {
  hand_number = with_number n (z.old_number n) z.hand_number;
  strayed = z.strayed || z.freed;
}
stepped d (PutNumber n) z = record z {
  new_number = with_number n (z.hand_number n) z.new_number;
}
stepped d (Look w) z = record z { seen = z.seen || word_stands_out d z.new z.new_number w }
stepped d Post z = record z { told = z.told || z.seen }
stepped d Tell z = record z { told = z.told || any_stands_out d z.new z.new_number }
stepped d Untell z = record z { told = z.told && z.seen }
stepped d WriteNotice z = record z { noticed = true }
stepped d Free z = record z { freed = true; strayed = z.strayed || z.freed }

-- ---- what may happen

-- By which a store goes: its producer's route as it is written, or the one in force.
pub data By : Type 0 where
  Written : By
  InForce : By

-- Where that route of a producer leads.
abbrev pub route_of : By → ℕ → AnyMachine → AnyPlace
route_of Written p z = z.written p
route_of InForce p z = z.in_force p

-- A step of the plan, or what may come before it or after it: a store that lands at once; one
-- that is sent, and is in flight from then on; a landing of the k-th store in flight, counted from
-- 0, the newest first; a route that comes in force as it is written, before its fence. A producer
-- that is paused makes no store and sends none.
pub data AnyHappening : Type 0 where
  Does : (step : AnyStep) → AnyHappening
  Stores : (producer : ℕ) → (by : By) → (identity : ℕ) → AnyHappening
  Sends : (producer : ℕ) → (by : By) → (identity : ℕ) → AnyHappening
  Lands : (k : ℕ) → AnyHappening
  Refetches : (producer : ℕ) → AnyHappening

-- A store in flight, if there is such a one, lands.
abbrev pub one_landed : Setting → Option AnyFlight → AnyMachine → AnyMachine
one_landed d None z = z
one_landed d (Some f) z = flight_landed d f z

-- A list without its k-th member, counted from 0.
abbrev pub all_but : {A : Type 0} → ℕ → List A → List A
all_but k [] = []
all_but zero (x ∷ xs) = xs
all_but (suc k) (x ∷ xs) = x ∷ all_but k xs

-- What one of these makes of the machine.
abbrev pub happened : Setting → AnyHappening → AnyMachine → AnyMachine
happened d (Does step) z = stepped d step z
happened d (Stores p by x) z = if z.paused p then z else landed d (route_of by p z) x z
happened d (Sends p by x) z = if z.paused p then z else record z {
  flights = record { producer = p; place = route_of by p z; identity = x } ∷ z.flights;
}
happened d (Lands k) z = record (one_landed d (slice_get z.flights k) z) {
  flights = all_but k z.flights;
}
happened d (Refetches p) z = record z { in_force = led_to p (z.written p) z.in_force }

-- What happens one after the other, the first of a list first.
abbrev pub all_happened : Setting → List AnyHappening → AnyMachine → AnyMachine
all_happened d [] z = z
all_happened d (x ∷ later) z = all_happened d later (happened d x z)

-- The steps among what happens, in their order.
abbrev pub steps_in : List AnyHappening → List AnyStep
steps_in [] = []
steps_in (Does step ∷ later) = step ∷ steps_in later
steps_in (x ∷ later) = steps_in later
