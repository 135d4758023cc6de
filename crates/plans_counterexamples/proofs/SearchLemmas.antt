-- What is followed step by step, and the first run that is found.
use Rattle.std.proofs.Common.{◌≡◌, ℕ, suc, ◌+◌, ◌-◌, ◌<◌, ◌≤◌, if◌then◌else◌, length, List, Option, Some, None, refl, sym, ap, subst, ◌∙◌, arith}
use Rattle.std.specs.Prelude.{get_or}
use Rattle.std.proofs.lemmas.Option.{slice_get-get_or}
use Rattle.plans_rules.specs.declared.step.AnyStep.{AnyStep}
use Rattle.plans_rules.specs.declared.setting.Terms.{Terms}
use Rattle.plans_counterexamples.specs.declared.run.Run.{Run}
use Rattle.plans_counterexamples.specs.declared.trace.StoreRoute.{StoreRoute}
use Rattle.plans_counterexamples.specs.declared.trace.Case.{Case}
use Rattle.plans_counterexamples.specs.declared.trace.Trace.{Trace}
use Rattle.plans_counterexamples.specs.declared.trace.Begin.TheVariants as begins
use Rattle.plans_counterexamples.specs.declared.run.Extra.TheVariants as extras
use Rattle.plans_counterexamples.specs.Trace.{trace_after}
use Rattle.plans_counterexamples.specs.Run.{trace_extra}
use Rattle.plans_counterexamples.specs.Search.{first_of, last_by, or_else, reaches_by, run_of, trace_stepped, trace_upto}

pub traced_more : (run : Run) (terms : Terms) (plan : List AnyStep) (k : ℕ) (x : AnyStep) → k < length plan
    → trace_after run.case (get_or plan k x) (trace_extra run k (trace_upto run terms plan k)) ≡ trace_upto run terms plan (k + 1)
traced_more run terms plan k x low =
    sym (ap (λ o. trace_stepped run o (trace_extra run k (trace_upto run terms plan k))) (slice_get-get_or plan k x low))
    ∙ ap (trace_upto run terms plan) (next k)
  where
    next : (k : ℕ) → suc k ≡ k + 1
    next k = omega arith

-- nothing is found at one more
pub first_none : {A : Type 0} (found : ℕ → Option A) (k n : ℕ) (all : Option A) → k < n → None ≡ found k → first_of found k (n - k) ≡ all
    → first_of found (k + 1) (n - (k + 1)) ≡ all
unfolding first_of
first_none found k n all low none e =
    let one : n - k ≡ suc (n - (k + 1)) = omega (arith, low) in
    let next : k + 1 ≡ suc k = omega arith in
    ap (λ m. first_of found m (n - (k + 1))) next ∙ ap (λ o. or_else o (first_of found (suc k) (n - (k + 1)))) none
    ∙ sym (ap (first_of found k) one) ∙ e

-- it is found there
pub first_some : {A : Type 0} (found : ℕ → Option A) (k n : ℕ) (x : A) (all : Option A) → k < n → Some x ≡ found k
    → first_of found k (n - k) ≡ all → Some x ≡ all
unfolding first_of
first_some found k n x all low some e =
    let one : n - k ≡ suc (n - (k + 1)) = omega (arith, low) in
    ap (λ o. or_else o (first_of found (suc k) (n - (k + 1)))) some ∙ sym (ap (first_of found k) one) ∙ e

-- it is found nowhere
pub first_end : {A : Type 0} (found : ℕ → Option A) (k n : ℕ) (all : Option A) → n ≤ k → first_of found k (n - k) ≡ all → None ≡ all
unfolding first_of
first_end found k n all past e =
    let none : n - k ≡ 0 = omega (arith, past) in
    sym (ap (first_of found k) none) ∙ e

-- how late a place is reached by a route, with one step more
pub last_more : (route : StoreRoute) (case : Case) (terms : Terms) (plan : List AnyStep) (k : ℕ) (x : AnyStep) (t now : Trace) (last : ℕ) → k < length plan
    → t ≡ trace_upto (run_of case begins.Nowhere extras.Nothing) terms plan k → now ≡ trace_after case (get_or plan k x) t
    → last ≡ last_by route case terms plan k
    → (now ≡ trace_upto (run_of case begins.Nowhere extras.Nothing) terms plan (k + 1))
    × ((if reaches_by route now then k + 1 else last) ≡ last_by route case terms plan (k + 1))
last_more route case terms plan k x t now last low before after so_far =
    let run : Run = run_of case begins.Nowhere extras.Nothing in
    let reached : now ≡ trace_upto run terms plan (k + 1) =
    after ∙ ap (trace_after case (get_or plan k x)) before ∙ traced_more run terms plan k x low in
    let next : suc k ≡ k + 1 = omega arith in (
      reached,
      ap (λ (u : Trace). if reaches_by route u then k + 1 else last) reached
          ∙ ap (λ n. if reaches_by route (trace_upto run terms plan (k + 1)) then k + 1 else n) so_far
          ∙ subst (λ m. (if reaches_by route (trace_upto run terms plan m) then k + 1 else last_by route case terms plan k) ≡ last_by route case terms plan m)
          next refl,
    )
