-- Which run is found after which the host was not told: the first one, among those with one store
-- at most. Profile.
use Rattle.std.specs.Prelude.{ℕ, ◌+◌, ◌*◌, Bool, nat_le, ◌&&◌, if◌then◌else◌, List, length, Option, Some, None}
use Rattle.plans_rules.specs.declared.step.AnyStep.{AnyStep}
use Rattle.plans_counterexamples.specs.declared.limits.TheConstants.{SMALL_PRODUCERS, SMALL_WORDS, SMALL_STEPS}
use Rattle.plans_rules.specs.declared.setting.RouteKind.{RouteKind}
use Rattle.plans_rules.specs.declared.setting.NumberSpot.{NumberSpot}
use Rattle.plans_rules.specs.declared.setting.NumberSpot.TheVariants.{InOld, InHand, InNew}
use Rattle.plans_rules.specs.declared.setting.Terms.{Terms}
use Rattle.plans_counterexamples.specs.declared.trace.StoreRoute.TheVariants.{Written, InForce}
use Rattle.plans_counterexamples.specs.declared.untold.Store.{Store}
use Rattle.plans_counterexamples.specs.declared.untold.UntoldRun.{UntoldRun}
use Rattle.plans_counterexamples.specs.Untold.{can_come, is_untold, watch_end}
use Rattle.plans_counterexamples.specs.Search.{first_of, or_else}

-- A run, if a plan has it and it leaves the host untold.
unfoldable pub tried_untold : List RouteKind → Terms → List AnyStep → UntoldRun → Option UntoldRun
tried_untold producers terms plan u =
    if can_come u terms producers && is_untold terms u (watch_end terms plan u)
    then Some u else None

-- The run of the second identity of a word, with such a store, delivery in this spot and the
-- threshold that lets it through in that one.
abbrev pub untold_of : ℕ → Option Store → NumberSpot → Option NumberSpot → UntoldRun
untold_of word store delivery threshold = record {
  identity = 64 * word + 1;
  store = store;
  delivery = delivery;
  threshold = threshold;
}

-- The first such run with delivery in a spot: the threshold that lets through is in the old place,
-- the hand, the new place, or in none.
unfoldable pub with_delivery : List RouteKind → Terms → List AnyStep → ℕ → Option Store → NumberSpot
    → Option UntoldRun
with_delivery producers terms plan word store delivery =
    or_else (tried_untold producers terms plan (untold_of word store delivery (Some InOld)))
    (or_else (tried_untold producers terms plan (untold_of word store delivery (Some InHand)))
    (or_else (tried_untold producers terms plan (untold_of word store delivery (Some InNew)))
    (tried_untold producers terms plan (untold_of word store delivery None))))

-- The first such run with delivery in any spot; one start is enough where the numbers are not
-- heeded.
unfoldable pub untold_with_numbers : List RouteKind → Terms → List AnyStep → ℕ → Option Store
    → Option UntoldRun
untold_with_numbers producers terms plan word store =
    if terms.heeds then or_else (with_delivery producers terms plan word store InOld)
    (or_else (with_delivery producers terms plan word store InHand)
    (with_delivery producers terms plan word store InNew))
    else tried_untold producers terms plan (untold_of word store InOld (Some InOld))

-- The first such run with a store that comes with so many steps before it, by the route in force or
-- by the written one.
unfoldable pub stored_before : List RouteKind → Terms → List AnyStep → ℕ → ℕ → ℕ → Option UntoldRun
stored_before producers terms plan word producer before =
    or_else (untold_with_numbers producers terms plan word (Some (record {
      producer = producer;
      before = before;
      route = InForce;
    }))) (untold_with_numbers producers terms plan word (Some (record {
      producer = producer;
      before = before;
      route = Written;
    })))

-- The first such run with a store of a producer that comes before one of the steps, or after the
-- last one.
unfoldable pub stored_by : List RouteKind → Terms → List AnyStep → ℕ → ℕ → Option UntoldRun
stored_by producers terms plan word producer =
    first_of (stored_before producers terms plan word producer) 0 (length plan + 1)

-- Whether a plan is so small that runs of it with a store are looked for.
abbrev pub is_small : ℕ → ℕ → ℕ → Bool
is_small producers words steps =
    nat_le producers SMALL_PRODUCERS && (nat_le words SMALL_WORDS && nat_le steps SMALL_STEPS)

-- The first such run of a word: without a store, or, of a small plan, with one.
unfoldable pub untold_word : List RouteKind → Terms → List AnyStep → ℕ → Option UntoldRun
untold_word producers terms plan word =
    or_else (untold_with_numbers producers terms plan word None)
    (if is_small (length producers) terms.words (length plan)
    then first_of (stored_by producers terms plan word) 0 (length producers) else None)

-- The first run of any word after which the host was not told.
unfoldable pub untold_run_of : List RouteKind → Terms → List AnyStep → Option UntoldRun
untold_run_of producers terms plan =
    first_of (untold_word producers terms plan) 0 terms.words
