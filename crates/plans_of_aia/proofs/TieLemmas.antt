-- A plan that the rule on plans of our shape accepts is accepted as anybody's plan.
use Rattle.std.proofs.Common.{◌&&◌, ◌≡◌, ℕ, true, false, not, ◌||◌, [], ◌∷◌, None, inl, refl, ap}
use Rattle.std.specs.List.{All, list_any}
use Rattle.std.proofs.lemmas.Bool.{false≢true, and_parts}
use Rattle.aia_plan.specs.Plan.{WrittenPlan, IsInside}
use Rattle.aia_plan.specs.Rule.{stands, is_once, all_below, are_paired, takes_enables, puts_enables, own_record, failing}
use Rattle.aia_plan.specs.declared.step.Kind.{Kind}
use Rattle.aia_plan.specs.declared.step.Step.{Step as OurStep}
use Rattle.aia_plan.specs.declared.step.Step.TheVariants.{Word0, Fence, GFence, TakeP, PutP, TakeE, Post}
use Rattle.aia_plan.proofs.Throughout.{by_recursion}
use Rattle.aia_plan.proofs.RuleIsSafe.{once_stands, below_passes, all_turns, all_late, keeps_all}
use Rattle.plans_rules.specs.declared.step.WhichSet.TheVariants.{Pending, Enabled}
use Rattle.plans_rules.specs.declared.step.Number.TheVariants.{Threshold, Delivery}
use Rattle.plans_rules.specs.declared.setting.NumberSpot.TheVariants.{InOld}
use Rattle.plans_rules.specs.declared.rule.Rule.TheVariants.{Routes, Words, Blank, Numbers, Freeing}
use Rattle.plans_rules.specs.declared.step.AnyStep.TheVariants as steps
use Rattle.plans_rules.specs.Rules.{Done, only_hand, is_blank, has_number, frees, lets_rest, moves}
use Rattle.plans_rules.specs.Safe.{IsSafe}
use Rattle.plans_rules.proofs.BoolLaws.{and_of, or_right, clash, all_of}
use Rattle.plans_rules.proofs.RulesAreSafe.{rules_are_safe}
use Rattle.plans_of_aia.specs.Translated.{access_of, onto, translated, shape_setting}
use Rattle.plans_of_aia.proofs.Onward.{no_number, fresh_is_blank}
use Rattle.plans_of_aia.proofs.RoutesKept.{Led, routes_kept}
use Rattle.plans_of_aia.proofs.WordsKept.{Held, words_kept}

-- what stands is not said to stand nowhere
stood : {A : Type 0} (step : OurStep) (plan : WrittenPlan) → is_once step plan ≡ true → stands step plan ≡ false → A
stood step plan once none = clash (stands step plan) (once_stands step plan once) none

blank_kept : (words : ℕ) (rest : WrittenPlan) (done : Done) → lets_rest Blank (shape_setting words) done (translated rest) ≡ true
blank_kept words [] done = all_of (λ w. is_blank (shape_setting words) Pending w done && is_blank (shape_setting words) Enabled w done) words
    (λ w low. and_of (is_blank (shape_setting words) Pending w done) _ (fresh_is_blank (shape_setting words) Pending w done refl)
    (fresh_is_blank (shape_setting words) Enabled w done refl))
blank_kept words (PutP v ∷ later) done =
    and_of (not (only_hand (shape_setting words) Pending v done) || is_blank (shape_setting words) Pending v done) _
    (or_right _ (is_blank (shape_setting words) Pending v done) (fresh_is_blank (shape_setting words) Pending v done refl))
    (blank_kept words later (steps.Join Pending v ∷ done))
blank_kept words (x ∷ later) done = blank_kept words later (onto (access_of x) done)

-- nothing is given back
freeing_kept : (words : ℕ) (rest : WrittenPlan) (done : Done) → list_any frees done ≡ false
    → lets_rest Freeing (shape_setting words) done (translated rest) ≡ true
freeing_kept words [] done kept = refl
freeing_kept words (TakeP v ∷ later) done kept =
    and_of (not (list_any frees done)) _ (ap not kept) (freeing_kept words later (steps.Take Pending v ∷ done) kept)
freeing_kept words (TakeE v ∷ later) done kept =
    and_of (not (list_any frees done)) _ (ap not kept) (freeing_kept words later (steps.Take Enabled v ∷ done) kept)
freeing_kept words (x ∷ later) done kept = freeing_kept words later (onto (access_of x) done) kept

-- no number is touched
numbers_kept : (words : ℕ) (rest : WrittenPlan) (done : Done) → has_number (shape_setting words) Threshold InOld done ≡ true
    → has_number (shape_setting words) Delivery InOld done ≡ true → lets_rest Numbers (shape_setting words) done (translated rest) ≡ true
numbers_kept words [] done threshold delivery = and_of (has_number (shape_setting words) Threshold InOld done) _ threshold delivery
numbers_kept words (Post ∷ later) done threshold delivery = numbers_kept words later (steps.Post ∷ done) threshold delivery
numbers_kept words (x ∷ later) done threshold delivery = numbers_kept words later (onto (access_of x) done) threshold delivery

led_at_start : (kind : Kind) (words : ℕ) (plan : WrittenPlan) → failing kind words plan ≡ None → Led kind words plan []
led_at_start kind words plan e =
    let keeps = keeps_all kind words plan e in
    let turns = all_turns kind plan keeps.turns in
    record {
      entry = stood Word0 plan turns.word0;
      fence = stood Fence plan turns.fence;
      map = stood (own_record kind) plan turns.own;
      gfence = stood GFence plan turns.gfence;
      entry_first = turns.word0_first;
      map_first = turns.own_first;
      late = λ w low.
          let late = all_late words plan keeps.late w low in
          record { emptied = stood (TakeP w) plan late.once; fence = late.fence; gfence = late.gfence };
      unpaused = tt;
    }

held_at_start : (kind : Kind) (words : ℕ) (plan : WrittenPlan) → failing kind words plan ≡ None → Held words None None plan []
held_at_start kind words plan e =
    let enables = and_parts (all_below (λ w. is_once (TakeE w) plan) words) (are_paired takes_enables puts_enables None plan)
    (keeps_all kind words plan e).enables in
    record {
      pending_held = λ w h. absurd (false≢true h);
      enables_held = λ w h. absurd (false≢true h);
      filled = λ w h. absurd (false≢true h);
      taken = λ w f. no_number f;
      once = λ w low. inl (below_passes (λ w. is_once (TakeE w) plan) words w enables.0 low);
      unpaused = tt;
    }

pub kept_there : (kind : Kind) (words : ℕ) (plan : WrittenPlan) → All (IsInside words) plan → failing kind words plan ≡ None
    → moves (shape_setting words) (translated plan) ≡ true
kept_there kind words plan inside e =
    let keeps = keeps_all kind words plan e in
    let enables = and_parts (all_below (λ w. is_once (TakeE w) plan) words) (are_paired takes_enables puts_enables None plan) keeps.enables in
    let d = shape_setting words in
    let named = by_recursion (IsInside words) plan inside in
    and_of (lets_rest Routes d [] (translated plan)) _ (routes_kept kind words plan [] (led_at_start kind words plan e))
    (and_of (lets_rest Words d [] (translated plan)) _
    (words_kept words plan None None [] named keeps.pending enables.1 (held_at_start kind words plan e))
    (and_of (lets_rest Blank d [] (translated plan)) _ (blank_kept words plan [])
    (and_of (lets_rest Numbers d [] (translated plan)) (lets_rest Freeing d [] (translated plan)) (numbers_kept words plan [] refl refl)
    (freeing_kept words plan [] refl))))

pub safe_there : (kind : Kind) (words : ℕ) (plan : WrittenPlan) → All (IsInside words) plan → failing kind words plan ≡ None
    → IsSafe (shape_setting words) (translated plan)
safe_there kind words plan inside e = rules_are_safe (shape_setting words) (translated plan) (kept_there kind words plan inside e)
