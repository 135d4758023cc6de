-- Which run is found of a plan that breaks a rule of safety: the first that shows it, of a few with
-- one store at most that follow the word in which the rule is broken. Profile.
use Rattle.std.specs.Prelude.{ℕ, zero, suc, ◌+◌, ◌*◌, ◌-◌, ◌^◌, Bool, true, false, not, ◌&&◌, nat_le, if◌then◌else◌, List, length, Option, Some, None, slice_get}
use Rattle.plans_rules.specs.declared.step.WhichSet.TheVariants.{Pending, Enabled}
use Rattle.plans_rules.specs.declared.step.Number.TheVariants.{Threshold, Delivery}
use Rattle.plans_rules.specs.declared.step.AnyStep.{AnyStep}
use Rattle.plans_rules.specs.declared.step.AnyStep.TheVariants as steps
use Rattle.plans_rules.specs.declared.rule.Rule.{Rule}
use Rattle.plans_rules.specs.declared.setting.RouteKind.{RouteKind}
use Rattle.plans_rules.specs.declared.setting.Terms.{Terms}
use Rattle.plans_rules.specs.Setting.{is_old}
use Rattle.plans_rules.specs.Rules.{lifts}
use Rattle.plans_counterexamples.specs.declared.trace.Begin.{Begin}
use Rattle.plans_counterexamples.specs.declared.trace.Begin.TheVariants as begins
use Rattle.plans_counterexamples.specs.declared.trace.Case.{Case}
use Rattle.plans_counterexamples.specs.declared.trace.StoreRoute.{StoreRoute}
use Rattle.plans_counterexamples.specs.declared.trace.StoreRoute.TheVariants.{Written, InForce}
use Rattle.plans_counterexamples.specs.declared.trace.Trace.{Trace}
use Rattle.plans_counterexamples.specs.declared.run.Extra.{Extra}
use Rattle.plans_counterexamples.specs.declared.run.Extra.TheVariants as extras
use Rattle.plans_counterexamples.specs.declared.run.Run.{Run}
use Rattle.plans_counterexamples.specs.declared.search.Losing.{Losing}
use Rattle.plans_counterexamples.specs.declared.search.Scope.{Scope}
use Rattle.plans_counterexamples.specs.declared.search.Scope.TheVariants as scopes
use Rattle.plans_counterexamples.specs.Trace.{trace_after}
use Rattle.plans_counterexamples.specs.Run.{can_be, fate_of, shows, trace_begun, trace_extra}

-- What is followed with one step more, where there is one.
abbrev pub trace_stepped : Run → Option AnyStep → Trace → Trace
trace_stepped run None t = t
trace_stepped run (Some x) t = trace_after run.case x t

-- What is followed with so many steps done.
abbrev pub trace_upto : Run → Terms → List AnyStep → ℕ → Trace
trace_upto run terms plan zero = trace_begun run terms
trace_upto run terms plan (suc k) =
    trace_stepped run (slice_get plan k) (trace_extra run k (trace_upto run terms plan k))

-- What is followed at the end of the run.
abbrev pub trace_end : Run → Terms → List AnyStep → Trace
trace_end run terms plan = trace_extra run (length plan) (trace_upto run terms plan (length plan))

-- A run, and what becomes of what it follows, if a plan has it and it shows that the rule is
-- broken.
unfoldable pub tried : Rule → List RouteKind → Terms → List AnyStep → Run → Option Losing
tried rule producers terms plan run =
    if can_be run terms producers
    && shows rule run (length producers) terms (trace_end run terms plan)
    then Some (record {
      run = run;
      fate = fate_of rule plan run (length producers) (trace_end run terms plan);
    }) else None

-- The first of two that is found.
abbrev pub or_else : {A : Type 0} → Option A → Option A → Option A
or_else None other = other
or_else (Some x) other = Some x

-- The first that is found at so many numbers, from a given one on.
unfoldable pub first_of : {A : Type 0} → (ℕ → Option A) → ℕ → ℕ → Option A
first_of found from zero = None
first_of found from (suc count) = or_else (found from) (first_of found (suc from) count)

-- The pending bit of the second identity of a word, since the first one of word 0 is none; the
-- threshold, and a producer.
abbrev pub pending_case : ℕ → ℕ → Case
pending_case word producer = record {
  bank = Pending;
  identity = 64 * word + 1;
  number = Threshold;
  producer = producer;
}

-- The enable of that identity, and delivery; and no producer, since no plan has one of the greatest
-- number.
abbrev pub enabled_case : ℕ → Case
enabled_case word = record {
  bank = Enabled;
  identity = 64 * word + 1;
  number = Delivery;
  producer = 2 ^ 64 - 1;
}

-- The run that follows a case, begins in this way, and has this extra event between its steps.
abbrev pub run_of : Case → Begin → Extra → Run
run_of case begin extra = record { case = case; begin = begin; extra = extra; left = false }

-- The run without a store that begins with numbers left in the old place.
abbrev pub left_run : Case → Run
left_run case = record (run_of case begins.Nowhere extras.Nothing) { left = true }

-- The first that shows it of the runs without a store.
unfoldable pub without_store : Rule → List RouteKind → Terms → List AnyStep → Case → Option Losing
without_store rule producers terms plan case =
    or_else (tried rule producers terms plan (run_of case begins.InOld extras.Nothing))
    (or_else (tried rule producers terms plan (run_of case begins.Nowhere extras.Nothing))
    (or_else (tried rule producers terms plan (run_of case begins.InNew extras.Nothing))
    (tried rule producers terms plan (left_run case))))

-- Whether a store of the producer comes to the old place by the route in force; whether one comes
-- to the new place by the written route.
abbrev pub reaches_by : StoreRoute → Trace → Bool
reaches_by InForce t = is_old t.in_force && not t.paused
reaches_by Written t = not (is_old t.written) && not t.paused

-- How many steps at most, of so many, are done where that is so; 0 if it never is.
abbrev pub last_by : StoreRoute → Case → Terms → List AnyStep → ℕ → ℕ
last_by route case terms plan zero = 0
last_by route case terms plan (suc k) =
    if reaches_by route (trace_upto (run_of case begins.Nowhere extras.Nothing) terms plan (suc k))
    then k + 1 else last_by route case terms plan k

-- The runs with a store of the producer that reaches the old place with so many steps before it, or
-- as late as it can before that: it is made then, or it is sent, and lands there.
unfoldable pub stored_old : Rule → List RouteKind → Terms → List AnyStep → Case → ℕ → Option Losing
stored_old rule producers terms plan case at =
    or_else (tried rule producers terms plan
    (run_of case begins.Nowhere (extras.Stores (last_by InForce case terms plan at) InForce)))
    (tried rule producers terms plan
    (run_of case begins.Nowhere (extras.Sends (last_by InForce case terms plan at) at)))

-- The run with a store that reaches the new place by the written route with so many steps before
-- it, or as late as it can before that.
unfoldable pub stored_ahead : Rule → List RouteKind → Terms → List AnyStep → Case → ℕ
    → Option Losing
stored_ahead rule producers terms plan case at =
    tried rule producers terms plan
    (run_of case begins.Nowhere (extras.Stores (last_by Written case terms plan at) Written))

-- How many steps are before the last one, of so many, that lifts a pending word; 0 if there is
-- none.
abbrev pub last_lift : List AnyStep → ℕ → ℕ → ℕ
last_lift plan word zero = 0
last_lift plan word (suc k) = elim (slice_get plan k) [
  | None ↦ last_lift plan word k
  | Some x ↦ if lifts Pending word x then k else last_lift plan word k
]

-- One step more, where a plan has it.
abbrev pub one_more : List AnyStep → ℕ → ℕ
one_more plan at = if nat_le (length plan) at then at else at + 1

-- The first that shows it of the runs with a store of a producer into a word, which a rule that is
-- broken with so many steps before it asks for: after the step, or before it; before the last step
-- that lifts the word; or ahead. Then that without a store, by where the producer's route leads.
unfoldable pub by_producer : Rule → List RouteKind → Terms → List AnyStep → ℕ → ℕ → ℕ
    → Option Losing
by_producer rule producers terms plan word at producer =
    or_else
    (stored_old rule producers terms plan (pending_case word producer) (one_more plan at))
    (or_else (stored_old rule producers terms plan (pending_case word producer) at)
    (or_else (stored_old rule producers terms plan (pending_case word producer)
    (last_lift plan word at))
    (or_else (stored_ahead rule producers terms plan (pending_case word producer) at)
    (tried rule producers terms plan
    (run_of (pending_case word producer) begins.Nowhere extras.Nothing)))))

-- The first of these runs of any producer.
unfoldable pub stored_word : Rule → List RouteKind → Terms → List AnyStep → ℕ → ℕ → Option Losing
stored_word rule producers terms plan at word =
    first_of (by_producer rule producers terms plan word at) 0 (length producers)

-- The first of the runs without a store, of the pending bit and of the enable of a word.
unfoldable pub quiet_word : Rule → List RouteKind → Terms → List AnyStep → ℕ → Option Losing
quiet_word rule producers terms plan word =
    or_else (without_store rule producers terms plan (pending_case word (2 ^ 64 - 1)))
    (without_store rule producers terms plan (enabled_case word))

-- Where it is looked for, by the step that breaks the rule: in the word of a set that it names, or
-- in all words, as in the end.
abbrev pub scope_by : Option AnyStep → Scope
scope_by (Some (steps.Zero place s w)) = scopes.One s w
scope_by (Some (steps.Take s w)) = scopes.One s w
scope_by (Some (steps.Copy s w)) = scopes.One s w
scope_by (Some (steps.Join s w)) = scopes.One s w
scope_by (Some (steps.Put s w)) = scopes.One s w
scope_by step = scopes.All

-- The first run that shows it, in such a scope: of a word of the pending set those without a store
-- and then those with one, of the enables those without; so of each word.
unfoldable pub found_in : Rule → List RouteKind → Terms → List AnyStep → ℕ → Scope → Option Losing
found_in rule producers terms plan at (scopes.One Pending word) =
    or_else (without_store rule producers terms plan (pending_case word (2 ^ 64 - 1)))
    (stored_word rule producers terms plan at word)
found_in rule producers terms plan at (scopes.One Enabled word) =
    without_store rule producers terms plan (enabled_case word)
found_in rule producers terms plan at scopes.All =
    or_else (first_of (quiet_word rule producers terms plan) 0 terms.words)
    (first_of (stored_word rule producers terms plan at) 0 terms.words)

-- A number, and no more than a bound.
abbrev pub at_most : ℕ → ℕ → ℕ
at_most number bound = if nat_le number bound then number else bound

-- The run that is found of a plan that breaks a rule with so many steps before it.
unfoldable pub losing_run_of : Rule → List RouteKind → Terms → List AnyStep → ℕ → Option Losing
losing_run_of rule producers terms plan before =
    found_in rule producers terms plan (at_most before (length plan))
    (scope_by (slice_get plan before))
