-- What is found loses something.
use Rattle.std.proofs.Common.{ap, ◌∙◌, ◌≡◌, ℕ, zero, suc, ◌+◌, ◌<◌, ◌≤◌, Bool, true, false, not, ◌&&◌, ◌||◌, if◌then◌else◌, length, List, [], ◌∷◌, Option, Some, None, inl, inr, refl, sym, subst, arith}
use Rattle.plans_rules.specs.declared.step.AnyStep.{AnyStep}
use Rattle.std.specs.Prelude.{slice_get, nat_eq, IfSome}
use Rattle.std.proofs.lemmas.Bool.{eqb-true, false≢true}
use Rattle.std.proofs.lemmas.Option.{same_Some}
use Rattle.plans_rules.specs.declared.step.AnyPlace.TheVariants.{Old, New}
use Rattle.plans_rules.specs.declared.step.AnyStep.TheVariants as steps
use Rattle.plans_counterexamples.specs.declared.trace.Trace.{Trace}
use Rattle.plans_counterexamples.specs.declared.run.Extra.{Extra}
use Rattle.plans_counterexamples.specs.declared.run.Extra.TheVariants as extras
use Rattle.plans_rules.specs.declared.setting.RouteKind.{RouteKind}
use Rattle.plans_rules.specs.declared.setting.Terms.{Terms}
use Rattle.plans_rules.specs.Setting.{setting_of, is_pending}
use Rattle.plans_rules.specs.declared.rule.Rule.{Rule}
use Rattle.plans_rules.specs.declared.rule.Rule.TheVariants as rules
use Rattle.plans_rules.specs.declared.step.WhichSet.TheVariants.{Pending, Enabled}
use Rattle.plans_counterexamples.specs.declared.search.Losing.{Losing}
use Rattle.plans_counterexamples.specs.declared.search.Scope.{Scope}
use Rattle.plans_counterexamples.specs.declared.search.Scope.TheVariants as scopes
use Rattle.plans_rules.specs.Machine.{all_happened}
use Rattle.plans_rules.proofs.BoolLaws.{and_left, and_right, or_left, or_right, or_cases}
use Rattle.plans_counterexamples.specs.declared.trace.Case.{Case}
use Rattle.plans_counterexamples.specs.declared.run.Run.{Run}
use Rattle.plans_counterexamples.specs.Trace.{Follows, trace_after, trace_fenced, trace_paused, trace_resumed, trace_switched, trace_turned}
use Rattle.plans_counterexamples.specs.Run.{Loses, can_be, differ, fate_of, happenings, is_bad_bit, is_bad_end, is_flying_old, is_left, is_left_old, is_missing, run_upto, shows, start_of, trace_extra, trace_flown, trace_number, trace_sent, trace_wanted}
use Rattle.plans_counterexamples.specs.Search.{at_most, by_producer, first_of, found_in, losing_run_of, or_else, quiet_word, scope_by, stored_ahead, stored_old, stored_word, trace_end, trace_stepped, trace_upto, tried, without_store}
use Rattle.plans_counterexamples.proofs.RunLemmas.{IsUnsent, follows_begun, follows_end, follows_more, it_loses}
use Rattle.plans_counterexamples.proofs.SearchLemmas.{traced_more}

-- ---- nothing is in flight before it is sent

after_none : (c : Case) (x : AnyStep) (t : Trace) → t.flight ≡ None → (trace_after c x t).flight ≡ None
after_none c (steps.Route q) t e = by_test (nat_eq q c.producer)
  where
    by_test : (b : Bool) → (trace_turned b t).flight ≡ None
    by_test true = e
    by_test false = e
after_none c (steps.Fence q) t e = by_test (nat_eq q c.producer)
  where
    by_test : (b : Bool) → (trace_fenced c b t).flight ≡ None
    by_test true = refl
    by_test false = e
after_none c (steps.Switch q) t e = by_test (nat_eq q c.producer)
  where
    by_test : (b : Bool) → (trace_switched b t).flight ≡ None
    by_test true = e
    by_test false = e
after_none c (steps.Pause q) t e = by_test (nat_eq q c.producer)
  where
    by_test : (b : Bool) → (trace_paused c b t).flight ≡ None
    by_test true = refl
    by_test false = e
after_none c (steps.Resume q) t e = by_test (nat_eq q c.producer)
  where
    by_test : (b : Bool) → (trace_resumed b t).flight ≡ None
    by_test true = e
    by_test false = e
after_none c (steps.Zero Old s w) t e = e
after_none c (steps.Zero New s w) t e = e
after_none c (steps.ZeroNumber Old n) t e = e
after_none c (steps.ZeroNumber New n) t e = e
after_none c x t e = e

stepped_none : (run : Run) (o : Option AnyStep) (t : Trace) → t.flight ≡ None → (trace_stepped run o t).flight ≡ None
stepped_none run None t e = e
stepped_none run (Some x) t e = after_none run.case x t e

flown_none : (c : Case) (comes : Bool) (t : Trace) → t.flight ≡ None → (trace_flown c comes t).flight ≡ None
flown_none c true t e = refl
flown_none c false t e = e

extra_none : (run : Run) (before lands k : ℕ) (t : Trace) → run.extra ≡ extras.Sends before lands → k < before → t.flight ≡ None
    → (trace_extra run k t).flight ≡ None
extra_none run before lands k t is low e = ap (λ (x : Extra). (trace_extra (record run { extra = x }) k t).flight) is ∙ by_test (nat_eq before k) refl
  where
    by_test : (b : Bool) → nat_eq before k ≡ b → (trace_flown run.case (nat_eq lands k) (trace_sent b t)).flight ≡ None
    by_test true same = absurd (omega (arith, low, eqb-true before k same))
    by_test false same = flown_none run.case (nat_eq lands k) t e

none_upto : (run : Run) (terms : Terms) (plan : List AnyStep) (before lands : ℕ) → run.extra ≡ extras.Sends before lands → (k : ℕ) → k ≤ before
    → (trace_upto run terms plan k).flight ≡ None
none_upto run terms plan before lands is zero within = refl
none_upto run terms plan before lands is (suc k) within =
    stepped_none run (slice_get plan k) (trace_extra run k (trace_upto run terms plan k))
    (extra_none run before lands k (trace_upto run terms plan k) is (omega (arith, within))
    (none_upto run terms plan before lands is k (omega (arith, within))))

unsent_upto : (run : Run) (terms : Terms) (plan : List AnyStep) (k : ℕ) → IsUnsent run k (trace_upto run terms plan k)
unsent_upto run terms plan k before lands is here = none_upto run terms plan before lands is k
    (let same = eqb-true before k here in omega (arith, same))

-- ---- a whole run

pub follows_upto : (producers : List RouteKind) (terms : Terms) (plan : List AnyStep) (run : Run) (k : ℕ) → k ≤ length plan
    → Follows run.case (trace_upto run terms plan k)
    (all_happened (setting_of producers terms) (run_upto plan run k) (start_of (setting_of producers terms) run))
follows_upto producers terms plan run zero within = follows_begun producers terms run
follows_upto producers terms [] run (suc k) within = absurd (omega (arith, within))
follows_upto producers terms (y ∷ ys) run (suc k) within =
    let low : k < length (y ∷ ys) = omega (arith, within) in
    let next : k + 1 ≡ suc k = omega arith in
    subst (λ n. Follows run.case (trace_upto run terms (y ∷ ys) n)
    (all_happened (setting_of producers terms) (run_upto (y ∷ ys) run n) (start_of (setting_of producers terms) run))) next
    (subst (λ t. Follows run.case t (all_happened (setting_of producers terms) (run_upto (y ∷ ys) run (k + 1))
    (start_of (setting_of producers terms) run))) (traced_more run terms (y ∷ ys) k y low)
    (follows_more producers terms (y ∷ ys) run k y (trace_upto run terms (y ∷ ys) k) low (unsent_upto run terms (y ∷ ys) k)
    (follows_upto producers terms (y ∷ ys) run k (omega (arith, within)))))

pub follows_whole : (producers : List RouteKind) (terms : Terms) (plan : List AnyStep) (run : Run)
    → Follows run.case (trace_end run terms plan) (all_happened (setting_of producers terms) (happenings plan run)
    (start_of (setting_of producers terms) run))
follows_whole producers terms plan run =
    follows_end producers terms plan run (trace_upto run terms plan (length plan)) (unsent_upto run terms plan (length plan))
    (follows_upto producers terms plan run (length plan) (omega arith))

-- What is found, if anything is, has a property.
abbrev pub IfFound : {A : Type 0} → (A → Type 0) → Option A → Type 0
IfFound {A} P found = (x : A) → found ≡ Some x → P x

pub either : {A : Type 0} (P : A → Type 0) (a b : Option A) → IfFound P a → IfFound P b → IfFound P (or_else a b)
either P None b h g = g
either P (Some y) b h g = h

pub first : {A : Type 0} (P : A → Type 0) (found : ℕ → Option A) (from count : ℕ) → ((k : ℕ) → IfFound P (found k))
    → IfFound P (first_of found from count)
unfolding first_of
first P found from zero h = λ x e. absurd (cc)
first P found from (suc count) h = either P (found from) (first_of found (suc from) count) (h from) (first P found (suc from) count h)

-- what shows that a rule is broken is a bad end
differs : (a b : Bool) → (b && not a) ≡ true → differ a b ≡ true
differs true true e = absurd (false≢true e)
differs true false e = absurd (false≢true e)
differs false true e = refl
differs false false e = absurd (false≢true e)

pub shown_bad : (rule : Rule) (run : Run) (producers : ℕ) (terms : Terms) (t : Trace) → shows rule run producers terms t ≡ true
    → is_bad_end run producers terms t ≡ true
shown_bad rules.Routes run producers terms t e =
    elim (or_cases (is_left_old run t) _ e) [
      | inl left ↦ or_left (is_bad_bit run t) _
          (or_right (differ t.new (trace_wanted run t)) t.old (and_right (is_pending run.case.bank) t.old left))
      | inr unled ↦ or_right (is_bad_bit run t) _ (or_right (not (trace_number terms.number_to t)) _
          (or_right (is_flying_old t.flight) _ (or_right (t.strayed || is_left terms t) _ unled)))
    ]
shown_bad rules.Words run producers terms t e = or_left (is_bad_bit run t) _ (elim (or_cases (is_missing run t && not t.old) _ e) [
  | inl missing ↦ or_left (differ t.new (trace_wanted run t)) t.old
      (differs t.new (trace_wanted run t) (and_left (is_missing run t) (not t.old) missing))
  | inr left ↦ or_right (differ t.new (trace_wanted run t)) t.old (and_right (not (is_pending run.case.bank)) t.old left)
])
shown_bad rules.Blank run producers terms t e = or_left (is_bad_bit run t) _ (or_left (differ t.new (trace_wanted run t)) t.old e)
shown_bad rules.Numbers run producers terms t e = or_right (is_bad_bit run t) _ (or_left (not (trace_number terms.number_to t)) _ e)
shown_bad rules.Freeing run producers terms t e =
    or_right (is_bad_bit run t) _ (or_right (not (trace_number terms.number_to t)) _
    (or_right (is_flying_old t.flight) _ (or_left (t.strayed || is_left terms t) _ e)))
shown_bad rules.Notice run producers terms t e = absurd (false≢true e)

-- What is found is a run that loses something.
abbrev pub FoundLoses : List RouteKind → Terms → List AnyStep → Losing → Type 0
FoundLoses producers terms plan found = Loses (setting_of producers terms) plan found.run

pub tried_loses : (rule : Rule) (producers : List RouteKind) (terms : Terms) (plan : List AnyStep) (run : Run)
    → IfFound (FoundLoses producers terms plan) (tried rule producers terms plan run)
unfolding tried
tried_loses rule producers terms plan run = λ x e. by_test
    (can_be run terms producers && shows rule run (length producers) terms (trace_end run terms plan)) refl x e
  where
    made : Losing
    made = record { run = run; fate = fate_of rule plan run (length producers) (trace_end run terms plan) }

    by_test : (b : Bool) → (can_be run terms producers && shows rule run (length producers) terms (trace_end run terms plan)) ≡ b → (x : Losing)
        → ◌≡◌ {A = Option Losing} (if b then Some made else None) (Some x) → Loses (setting_of producers terms) plan x.run
    by_test false is x e = absurd (cc)
    by_test true is x e =
        subst (λ (found : Losing). Loses (setting_of producers terms) plan found.run) (same_Some made x e)
        (it_loses producers terms plan run (trace_end run terms plan) (and_left _ _ is)
        (follows_end producers terms plan run (trace_upto run terms plan (length plan)) (unsent_upto run terms plan (length plan))
        (follows_upto producers terms plan run (length plan) (omega arith)))
        (shown_bad rule run (length producers) terms (trace_end run terms plan) (and_right (can_be run terms producers) _ is)))

without_loses : (rule : Rule) (producers : List RouteKind) (terms : Terms) (plan : List AnyStep) (case : Case)
    → IfFound (FoundLoses producers terms plan) (without_store rule producers terms plan case)
unfolding without_store
without_loses rule producers terms plan case = either _ _ _ (tried_loses rule producers terms plan _)
    (either _ _ _ (tried_loses rule producers terms plan _) (either _ _ _ (tried_loses rule producers terms plan _)
    (tried_loses rule producers terms plan _)))

old_loses : (rule : Rule) (producers : List RouteKind) (terms : Terms) (plan : List AnyStep) (case : Case) (at : ℕ)
    → IfFound (FoundLoses producers terms plan) (stored_old rule producers terms plan case at)
unfolding stored_old
old_loses rule producers terms plan case at =
    either _ _ _ (tried_loses rule producers terms plan _) (tried_loses rule producers terms plan _)

ahead_loses : (rule : Rule) (producers : List RouteKind) (terms : Terms) (plan : List AnyStep) (case : Case) (at : ℕ)
    → IfFound (FoundLoses producers terms plan) (stored_ahead rule producers terms plan case at)
unfolding stored_ahead
ahead_loses rule producers terms plan case at = tried_loses rule producers terms plan _

producer_loses : (rule : Rule) (producers : List RouteKind) (terms : Terms) (plan : List AnyStep) (word at producer : ℕ)
    → IfFound (FoundLoses producers terms plan) (by_producer rule producers terms plan word at producer)
unfolding by_producer
producer_loses rule producers terms plan word at producer =
    either _ _ _ (old_loses rule producers terms plan _ _) (either _ _ _ (old_loses rule producers terms plan _ _)
    (either _ _ _ (old_loses rule producers terms plan _ _)
    (either _ _ _ (ahead_loses rule producers terms plan _ _) (tried_loses rule producers terms plan _))))

stored_loses : (rule : Rule) (producers : List RouteKind) (terms : Terms) (plan : List AnyStep) (at word : ℕ)
    → IfFound (FoundLoses producers terms plan) (stored_word rule producers terms plan at word)
unfolding stored_word
stored_loses rule producers terms plan at word = first _ _ 0 (length producers) (λ p. producer_loses rule producers terms plan word at p)

quiet_loses : (rule : Rule) (producers : List RouteKind) (terms : Terms) (plan : List AnyStep) (word : ℕ)
    → IfFound (FoundLoses producers terms plan) (quiet_word rule producers terms plan word)
unfolding quiet_word
quiet_loses rule producers terms plan word =
    either _ _ _ (without_loses rule producers terms plan _) (without_loses rule producers terms plan _)

pub scope_loses : (rule : Rule) (producers : List RouteKind) (terms : Terms) (plan : List AnyStep) (at : ℕ) (scope : Scope)
    → IfFound (FoundLoses producers terms plan) (found_in rule producers terms plan at scope)
unfolding found_in
scope_loses rule producers terms plan at (scopes.One Pending word) =
    either _ _ _ (without_loses rule producers terms plan _) (stored_loses rule producers terms plan at word)
scope_loses rule producers terms plan at (scopes.One Enabled word) = without_loses rule producers terms plan _
scope_loses rule producers terms plan at scopes.All =
    either _ _ _ (first _ _ 0 terms.words (λ w. quiet_loses rule producers terms plan w))
    (first _ _ 0 terms.words (λ w. stored_loses rule producers terms plan at w))

pub found_loses : (rule : Rule) (producers : List RouteKind) (terms : Terms) (plan : List AnyStep) (before : ℕ) (found : Losing)
    → losing_run_of rule producers terms plan before ≡ Some found → Loses (setting_of producers terms) plan found.run
unfolding losing_run_of
found_loses rule producers terms plan before found e =
    scope_loses rule producers terms plan (at_most before (length plan)) (scope_by (slice_get plan before)) found e

pub if_some_found : {A : Type 0} (P : A → Type 0) (here there : Option A) → here ≡ there → IfFound P there → IfSome here P
if_some_found P None there e h = tt
if_some_found P (Some x) there e h = h x (sym e)
