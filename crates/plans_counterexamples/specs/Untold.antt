-- A run of a plan after which an identity stands out in the new place, and the host was not told.
-- Profile.
use Rattle.std.specs.Prelude.{◌≡◌, ℕ, zero, suc, ◌/◌, ◌-◌, ◌^◌, Bool, true, false, not, ◌&&◌, ◌||◌, nat_eq, nat_lt, List, [], length, Option, Some, None, slice_get}
use Rattle.plans_rules.specs.declared.step.WhichSet.{WhichSet}
use Rattle.plans_rules.specs.declared.step.WhichSet.TheVariants.{Pending, Enabled}
use Rattle.plans_rules.specs.declared.step.Number.{Number}
use Rattle.plans_rules.specs.declared.step.Number.TheVariants.{Threshold, Delivery}
use Rattle.plans_rules.specs.declared.step.AnyPlace.{AnyPlace}
use Rattle.plans_rules.specs.declared.step.AnyPlace.TheVariants.{Old}
use Rattle.plans_rules.specs.declared.step.AnyStep.{AnyStep}
use Rattle.plans_rules.specs.declared.step.AnyStep.TheVariants as steps
use Rattle.plans_rules.specs.declared.setting.RouteKind.{RouteKind}
use Rattle.plans_rules.specs.declared.setting.NumberSpot.{NumberSpot}
use Rattle.plans_rules.specs.declared.setting.NumberSpot.TheVariants.{InOld, InHand, InNew}
use Rattle.plans_rules.specs.declared.setting.Terms.{Terms}
use Rattle.plans_rules.specs.Setting.{Setting, is_old, same_spot}
use Rattle.plans_rules.specs.Machine.{AnyMachine, Sets, all_happened, stands_out}
use Rattle.plans_rules.specs.Rules.{untells, writes_notice}
use Rattle.plans_rules.specs.Safe.{HostKnows, IsRun, IsStartOfAny}
use Rattle.plans_counterexamples.specs.declared.trace.Begin.{Begin}
use Rattle.plans_counterexamples.specs.declared.trace.Begin.TheVariants as begins
use Rattle.plans_counterexamples.specs.declared.trace.Case.{Case}
use Rattle.plans_counterexamples.specs.declared.trace.StoreRoute.{StoreRoute}
use Rattle.plans_counterexamples.specs.declared.trace.StoreRoute.TheVariants.{Written, InForce}
use Rattle.plans_counterexamples.specs.declared.trace.Trace.{Trace}
use Rattle.plans_counterexamples.specs.declared.run.Extra.{Extra}
use Rattle.plans_counterexamples.specs.declared.run.Extra.TheVariants as extras
use Rattle.plans_counterexamples.specs.declared.run.Run.{Run}
use Rattle.plans_counterexamples.specs.declared.watch.Watch.{Watch}
use Rattle.plans_counterexamples.specs.declared.untold.Store.{Store}
use Rattle.plans_counterexamples.specs.declared.untold.UntoldRun.{UntoldRun}
use Rattle.plans_counterexamples.specs.Trace.{Follows, trace_after, trace_landed, worth}
use Rattle.plans_counterexamples.specs.Run.{happenings}

-- ---- the run

-- Whose store it is; no plan has a producer of the greatest number.
abbrev pub producer_of : Option Store → ℕ
producer_of None = 2 ^ 64 - 1
producer_of (Some store) = store.producer

-- Whether no store asks for the identity: then it stands in the old place from the start on.
abbrev pub is_unstored : Option Store → Bool
is_unstored None = true
is_unstored (Some store) = false

-- Where it is pending at the start.
abbrev pub begin_of : Option Store → Begin
begin_of None = begins.InOld
begin_of (Some store) = begins.Nowhere

-- What comes between the steps: the store, if there is one.
abbrev pub extra_of : Option Store → Extra
extra_of None = extras.Nothing
extra_of (Some store) = extras.Stores store.before store.route

-- The pending bit of an identity, with the threshold.
abbrev pub pending_bit : ℕ → ℕ → Case
pending_bit identity producer = record {
  bank = Pending;
  identity = identity;
  number = Threshold;
  producer = producer;
}

-- The enable of an identity, with delivery.
abbrev pub enabled_bit : ℕ → ℕ → Case
enabled_bit identity producer = record {
  bank = Enabled;
  identity = identity;
  number = Delivery;
  producer = producer;
}

-- A run in which the same comes between the steps. It begins otherwise: `untold_start` says how.
abbrev pub run_in : UntoldRun → Run
run_in u = record {
  case = pending_bit u.identity (producer_of u.store);
  begin = begin_of u.store;
  extra = extra_of u.store;
  left = false;
}

-- ---- how it begins

-- Whether a spot, where there is one, is this one.
abbrev pub is_spot : Option NumberSpot → NumberSpot → Bool
is_spot None spot = false
is_spot (Some at) spot = same_spot at spot

-- Delivery is 1 in one spot and 0 elsewhere; the threshold is 0 in one spot at most, and 1, which
-- lets none through but identity 0, elsewhere.
abbrev pub number_first : UntoldRun → NumberSpot → Number → ℕ
number_first u spot Threshold = worth (not (is_spot u.threshold spot))
number_first u spot Delivery = worth (same_spot u.delivery spot)

-- Whether the identity stands in a set of the old place at the start.
abbrev pub stands_first : UntoldRun → WhichSet → Bool
stands_first u Pending = is_unstored u.store
stands_first u Enabled = true

-- The identity is enabled in the old place, and is pending there where no store asks for it; no
-- other one stands anywhere; all leads to the old place; notices go to the host only where that is
-- declared.
abbrev pub untold_start : Setting → UntoldRun → AnyMachine
untold_start d u = record {
  old = λ s i. stands_first u s && nat_eq u.identity i;
  new = λ s i. false;
  hand = λ s i. false;
  due = λ s i. stands_first u s && nat_eq u.identity i;
  old_number = number_first u InOld;
  new_number = number_first u InNew;
  hand_number = number_first u InHand;
  written = λ p. Old;
  in_force = λ p. Old;
  paused = λ p. false;
  flights = [];
  freed = false;
  strayed = false;
  noticed = d.notices_go;
  seen = false;
  told = false;
}

-- ---- the host is not told

-- The machine at the end of the run.
abbrev pub untold_end : Setting → List AnyStep → UntoldRun → AnyMachine
untold_end d plan u = all_happened d (happenings plan (run_in u)) (untold_start d u)

-- It is a run of the machine from a start, the identity stands out in the new place at its end, and
-- the host was not told: so the host does not know.
pub record LeavesUntold (d : Setting) (plan : List AnyStep) (u : UntoldRun) : Type 0 where
  pub begins : IsStartOfAny d (untold_start d u)
  pub happens : IsRun d plan (happenings plan (run_in u))
  pub stands : stands_out d (untold_end d plan u).new (untold_end d plan u).new_number u.identity
      ≡ true
  pub untold : (untold_end d plan u).told ≡ false
  pub ends : ¬ HostKnows d (untold_end d plan u)

-- ---- what is followed in it: both bits of the identity, both numbers, and what the host was told

-- What is followed of one bit and one number, at the start: whether the bit stands in the old
-- place, and in which spots the number is 1.
abbrev pub trace_from : Bool → Bool → Bool → Bool → Trace
trace_from is_there old_number hand_number new_number = record {
  old = is_there;
  new = false;
  hand = false;
  due = is_there;
  old_number = old_number;
  new_number = new_number;
  hand_number = hand_number;
  written = Old;
  in_force = Old;
  paused = false;
  flight = None;
  freed = false;
  strayed = false;
}

-- All that is followed, at the start.
abbrev pub watch_begun : Terms → UntoldRun → Watch
watch_begun terms u = record {
  pending = trace_from (is_unstored u.store) (not (is_spot u.threshold InOld))
      (not (is_spot u.threshold InHand)) (not (is_spot u.threshold InNew));
  enabled = trace_from true (same_spot u.delivery InOld) (same_spot u.delivery InHand)
      (same_spot u.delivery InNew);
  noticed = terms.notices_go;
  seen = false;
  told = false;
}

-- Whether the numbers let the identity through, where they are heeded.
abbrev pub watch_lets : Terms → ℕ → Watch → Bool
watch_lets terms identity w =
    not terms.heeds
    || (w.enabled.new_number && (not w.pending.new_number || nat_lt identity 1))

-- Whether the identity stands out in the new place.
abbrev pub watch_out : Terms → ℕ → Watch → Bool
watch_out terms identity w = w.pending.new && (w.enabled.new && watch_lets terms identity w)

-- A store of a producer for the identity lands in a place: the host is told, where it then stands
-- out in the new one, and notices go to the host.
abbrev pub watch_landed : Terms → ℕ → ℕ → AnyPlace → Watch → Watch
watch_landed terms identity producer place w = record {
  pending = trace_landed (pending_bit identity producer) place w.pending;
  enabled = trace_landed (enabled_bit identity producer) place w.enabled;
  noticed = w.noticed;
  seen = w.seen;
  told = w.told
      || (not (is_old place) && (w.noticed && (w.enabled.new && watch_lets terms identity w)));
}

-- Where a store goes by a route.
abbrev pub watch_route : StoreRoute → Watch → AnyPlace
watch_route Written w = w.pending.written
watch_route InForce w = w.pending.in_force

-- A producer makes its store by a route, unless it is paused.
abbrev pub watch_made : Terms → ℕ → ℕ → StoreRoute → Watch → Watch
watch_made terms identity producer route w = elim w.pending.paused [
  | true ↦ w
  | false ↦ watch_landed terms identity producer (watch_route route w) w
]

-- The store comes, where so many steps are before it.
abbrev pub watch_stored : Terms → ℕ → Store → ℕ → Watch → Watch
watch_stored terms identity store k w = elim (nat_eq store.before k) [
  | true ↦ watch_made terms identity store.producer store.route w
  | false ↦ w
]

-- The same of a run that may have no store.
abbrev pub watch_extra : Terms → UntoldRun → ℕ → Watch → Watch
watch_extra terms u k w = elim u.store [
  | None ↦ w
  | Some store ↦ watch_stored terms u.identity store k w
]

-- Whether a step looks at the word, and sees the identity stand out.
abbrev pub watch_sees : Terms → ℕ → AnyStep → Watch → Bool
watch_sees terms identity (steps.Look word) w =
    nat_eq word (identity / 64) && watch_out terms identity w
watch_sees terms identity step w = false

-- Whether a step tells the host of the identity.
abbrev pub watch_tells : Terms → ℕ → AnyStep → Watch → Bool
watch_tells terms identity steps.Post w = w.seen
watch_tells terms identity steps.Tell w = watch_out terms identity w
watch_tells terms identity step w = false

-- Whether the host was told after a step.
abbrev pub watch_told : Terms → ℕ → AnyStep → Watch → Bool
watch_told terms identity step w = elim (untells step) [
  | true ↦ w.told && w.seen
  | false ↦ w.told || watch_tells terms identity step w
]

-- What a step makes of all that is followed.
abbrev pub watch_after : Terms → ℕ → ℕ → AnyStep → Watch → Watch
watch_after terms identity producer step w = record {
  pending = trace_after (pending_bit identity producer) step w.pending;
  enabled = trace_after (enabled_bit identity producer) step w.enabled;
  noticed = writes_notice step || w.noticed;
  seen = w.seen || watch_sees terms identity step w;
  told = watch_told terms identity step w;
}

-- What is followed with one step more, where there is one.
abbrev pub watch_stepped : Terms → UntoldRun → Option AnyStep → Watch → Watch
watch_stepped terms u None w = w
watch_stepped terms u (Some step) w =
    watch_after terms u.identity (producer_of u.store) step w

-- What is followed with so many steps done.
abbrev pub watch_upto : Terms → List AnyStep → UntoldRun → ℕ → Watch
watch_upto terms plan u zero = watch_begun terms u
watch_upto terms plan u (suc k) =
    watch_stepped terms u (slice_get plan k) (watch_extra terms u k (watch_upto terms plan u k))

-- What is followed at the end of the run.
abbrev pub watch_end : Terms → List AnyStep → UntoldRun → Watch
watch_end terms plan u =
    watch_extra terms u (length plan) (watch_upto terms plan u (length plan))

-- ---- it leaves the host untold

-- Whether the producer of the store, if there is one, is there.
abbrev pub can_store : Option Store → ℕ → Bool
can_store None producers = true
can_store (Some store) producers = nat_lt store.producer producers

-- Whether there can be such a run.
abbrev pub can_come : UntoldRun → Terms → List RouteKind → Bool
can_come u terms producers =
    nat_lt (u.identity / 64) terms.words && can_store u.store (length producers)

-- Whether in the end the identity stands out in the new place, and the host was not told.
abbrev pub is_untold : Terms → UntoldRun → Watch → Bool
is_untold terms u w = watch_out terms u.identity w && not w.told

-- ---- what is followed is what the machine does

-- No other identity is pending in a place.
abbrev pub IsAlone : ℕ → Sets → Type 0
IsAlone identity sets = (i : ℕ) → (identity ≡ i → ⊥) → sets Pending i ≡ false

-- The machine has what is followed; nothing else is pending, and nothing is in flight.
pub record IsWatched (u : UntoldRun) (w : Watch) (z : AnyMachine) : Type 0 where
  pub pending : Follows (pending_bit u.identity (producer_of u.store)) w.pending z
  pub enabled : Follows (enabled_bit u.identity (producer_of u.store)) w.enabled z
  pub noticed : z.noticed ≡ w.noticed
  pub seen : z.seen ≡ w.seen
  pub told : z.told ≡ w.told
  pub old : IsAlone u.identity z.old
  pub new : IsAlone u.identity z.new
  pub hand : IsAlone u.identity z.hand
  pub flights : z.flights ≡ []
