-- A plan that keeps the rule is safe.
use Rattle.std.proofs.Common.{◌≡◌, ℕ, zero, suc, ◌<◌, Bool, true, false, not, ◌&&◌, ◌||◌, if◌then◌else◌, [], ◌∷◌, Option, Some, None, is_none, inl, inr, refl, sym, ap, ◌∙◌, arith}
use Rattle.std.specs.List.{list_any, list_all, All}
use Rattle.std.proofs.lemmas.Bool.{false≢true, and_parts, or_parts, or_from, cases_eq}
use Rattle.aia_plan.specs.declared.step.Kind.{Kind}
use Rattle.aia_plan.specs.declared.step.Kind.TheVariants as kinds
use Rattle.aia_plan.specs.declared.step.Step.{Step}
use Rattle.aia_plan.specs.declared.step.Step.TheVariants.{Word0, Fence, Map, Unmap, Remap, GFence, TakeP, TakeE}
use Rattle.aia_plan.specs.Plan.{WrittenPlan, IsInside, is_step}
use Rattle.aia_plan.specs.Rule.{stands, is_never, is_once, comes_before, all_below, own_record, other_records, names_notice, turns_routes, takes_late, puts_at_once, moves_enables, are_paired, takes_enables, puts_enables, failing, first_failing, is_record}
use Rattle.aia_plan.specs.Safe.{IsSafe}
use Rattle.aia_plan.proofs.BoolLaws.{or_none}
use Rattle.aia_plan.proofs.Behind.{before, Before}
use Rattle.aia_plan.proofs.RunKept.{left_is_safe}
use Rattle.aia_plan.proofs.Throughout.{by_recursion}

-- ---- once, and before

pub comes_before-before : (first second : Step) (plan : WrittenPlan) → comes_before first second plan ≡ before (is_step first) (is_step second) plan
comes_before-before first second [] = refl
comes_before-before first second (x ∷ later) = ap (λ b. not (is_step second x && stands first later) && b) (comes_before-before first second later)

-- where a step never stands, it stands behind none
pub none_before : (first second : Step) (plan : WrittenPlan) → stands first plan ≡ false → comes_before first second plan ≡ true
none_before first second [] none = refl
none_before first second (x ∷ later) none =
    ap (λ b. not (is_step second x && b) && comes_before first second later) (or_parts (is_step first x) (stands first later) none).1
    ∙ behind_none (is_step second x) (comes_before first second later)
    ∙ none_before first second later (or_parts (is_step first x) (stands first later) none).1
  where
    behind_none : (here before : Bool) → (not (here && false) && before) ≡ before
    behind_none true before = refl
    behind_none false before = refl

-- exactly once is: it stands, and not twice
once_law : (is any once before : Bool) → once ≡ (any && before) → (any ≡ false → before ≡ true)
    → (if is then not any else once) ≡ ((is || any) && (not (is && any) && before))
once_law true true once before e none = refl
once_law true false once before e none = sym (none refl)
once_law false any once before e none = e

pub once_is : (step : Step) (plan : WrittenPlan) → is_once step plan ≡ (stands step plan && comes_before step step plan)
once_is step [] = refl
once_is step (x ∷ later) = once_law (is_step step x) (stands step later) (is_once step later) (comes_before step step later) (once_is step later)
    (none_before step step later)

pub once_stands : (step : Step) (plan : WrittenPlan) → is_once step plan ≡ true → stands step plan ≡ true
once_stands step plan once = (and_parts (stands step plan) (comes_before step step plan) (sym (once_is step plan) ∙ once)).0

pub once_before : (step : Step) (plan : WrittenPlan) → is_once step plan ≡ true → Before (is_step step) (is_step step) plan
once_before step plan once = sym (comes_before-before step step plan)
    ∙ (and_parts (stands step plan) (comes_before step step plan) (sym (once_is step plan) ∙ once)).1

pub in_order : (first second : Step) (plan : WrittenPlan) → comes_before first second plan ≡ true → Before (is_step first) (is_step second) plan
in_order first second plan e = sym (comes_before-before first second plan) ∙ e

-- ---- all numbers below one

pub below_passes : (passes : ℕ → Bool) (count w : ℕ) → all_below passes count ≡ true → w < count → passes w ≡ true
below_passes passes zero w e low = absurd (omega arith)
below_passes passes (suc n) w e low = elim (cases_eq w n) [
  | inl same ↦ ap passes same ∙ (and_parts (passes n) (all_below passes n) e).0
  | inr other ↦ below_passes passes n w (and_parts (passes n) (all_below passes n) e).1 (omega arith)
]

-- ---- the steps that write the record: where those of the other kinds never stand

abbrev pub NoOther : Kind → (Step → Bool) → Type 0
NoOther kind test = list_all (λ step. not (test step)) (other_records kind) ≡ true

record_law : (a b c : Bool) → b ≡ false → c ≡ false → (a || (b || c)) ≡ a
record_law a b c p q = ap (λ x. a || x) (or_from b c p q) ∙ or_none a

-- which of two tests passes none
two_false : (b c : Bool) → (not b && (not c && true)) ≡ true → (b ≡ false) × (c ≡ false)
two_false true c e = absurd (false≢true e)
two_false false true e = absurd (false≢true e)
two_false false false e = (refl, refl)

own_is : (kind : Kind) (test : Step → Bool) → NoOther kind test → (test Map || (test Unmap || test Remap)) ≡ test (own_record kind)
own_is kinds.Arrive test none = let e = two_false (test Unmap) (test Remap) none in record_law (test Map) (test Unmap) (test Remap) e.0 e.1
own_is kinds.Leave test none =
    let e = two_false (test Map) (test Remap) none in
    ap (λ x. x || (test Unmap || test Remap)) e.0 ∙ ap (λ x. test Unmap || x) e.1 ∙ or_none (test Unmap)
own_is kinds.Shift test none =
    let e = two_false (test Map) (test Unmap) none in
    ap (λ x. x || (test Unmap || test Remap)) e.0 ∙ ap (λ x. x || test Remap) e.1

-- of a plan, and so of its first step and of the others
split_law : (a b any_a any_b : Bool) → (not (a || any_a) && (not (b || any_b) && true)) ≡ true → ((not a && (not b && true)) ≡ true)
    × ((not any_a && (not any_b && true)) ≡ true)
split_law true b any_a any_b e = absurd (false≢true e)
split_law false true true any_b e = absurd (false≢true e)
split_law false true false any_b e = absurd (false≢true e)
split_law false false true any_b e = absurd (false≢true e)
split_law false false false true e = absurd (false≢true e)
split_law false false false false e = (refl, refl)

split : (kind : Kind) (x : Step) (later : WrittenPlan) → NoOther kind (λ step. stands step (x ∷ later)) → NoOther kind (λ step. is_step step x)
    × NoOther kind (λ step. stands step later)
split kinds.Leave x later none = split_law (is_step Map x) (is_step Remap x) (stands Map later) (stands Remap later) none
split kinds.Arrive x later none = split_law (is_step Unmap x) (is_step Remap x) (stands Unmap later) (stands Remap later) none
split kinds.Shift x later none = split_law (is_step Map x) (is_step Unmap x) (stands Map later) (stands Unmap later) none

-- so the steps that write the record are the kind's own
pub any_record : (kind : Kind) (plan : WrittenPlan) → NoOther kind (λ step. stands step plan)
    → list_any is_record plan ≡ stands (own_record kind) plan
any_record kind [] none = refl
any_record kind (x ∷ later) none =
    let both = split kind x later none in
    ap (λ b. b || list_any is_record later) (own_is kind (λ step. is_step step x) both.0)
    ∙ ap (λ b. is_step (own_record kind) x || b) (any_record kind later both.1)

pub record_before_record : (kind : Kind) (plan : WrittenPlan) → NoOther kind (λ step. stands step plan)
    → before is_record is_record plan ≡ comes_before (own_record kind) (own_record kind) plan
record_before_record kind [] none = refl
record_before_record kind (x ∷ later) none =
    let both = split kind x later none in
    ap (λ b. not (b && list_any is_record later) && before is_record is_record later) (own_is kind (λ step. is_step step x) both.0)
    ∙ ap (λ b. not (is_step (own_record kind) x && b) && before is_record is_record later) (any_record kind later both.1)
    ∙ ap (λ b. not (is_step (own_record kind) x && stands (own_record kind) later) && b) (record_before_record kind later both.1)

pub record_before : (kind : Kind) (second : Step) (plan : WrittenPlan) → NoOther kind (λ step. stands step plan)
    → before is_record (is_step second) plan ≡ comes_before (own_record kind) second plan
record_before kind second [] none = refl
record_before kind second (x ∷ later) none =
    let both = split kind x later none in
    ap (λ b. not (is_step second x && b) && before is_record (is_step second) later) (any_record kind later both.1)
    ∙ ap (λ b. not (is_step second x && stands (own_record kind) later) && b) (record_before kind second later both.1)

-- ---- the parts of the rule

-- What part 1 says, apart.
pub record Turns (kind : Kind) (plan : WrittenPlan) : Type 0 where
  pub word0 : is_once Word0 plan ≡ true
  pub fence : is_once Fence plan ≡ true
  pub word0_first : comes_before Word0 Fence plan ≡ true
  pub own : is_once (own_record kind) plan ≡ true
  pub others : NoOther kind (λ step. stands step plan)
  pub gfence : is_once GFence plan ≡ true
  pub own_first : comes_before (own_record kind) GFence plan ≡ true

pub all_turns : (kind : Kind) (plan : WrittenPlan) → turns_routes kind plan ≡ true → Turns kind plan
all_turns kind plan e =
    let s7 = (and_parts _ (names_notice kind plan) e).0 in
    let p6 = and_parts _ (comes_before (own_record kind) GFence plan) s7 in
    let p5 = and_parts _ (is_once GFence plan) p6.0 in
    let p4 = and_parts _ (list_all (λ step. is_never step plan) (other_records kind)) p5.0 in
    let p3 = and_parts _ (is_once (own_record kind) plan) p4.0 in
    let p2 = and_parts _ (comes_before Word0 Fence plan) p3.0 in
    let p1 = and_parts (is_once Word0 plan) (is_once Fence plan) p2.0 in
    record { word0 = p1.0; fence = p1.1; word0_first = p2.1; own = p3.1; others = p4.1; gfence = p5.1; own_first = p6.1 }

-- What part 2 says of a word, apart.
pub record TakesLate (w : ℕ) (plan : WrittenPlan) : Type 0 where
  pub once : is_once (TakeP w) plan ≡ true
  pub fence : comes_before Fence (TakeP w) plan ≡ true
  pub gfence : comes_before GFence (TakeP w) plan ≡ true

pub all_late : (words : ℕ) (plan : WrittenPlan) → takes_late words plan ≡ true → (w : ℕ) → w < words → TakesLate w plan
all_late words plan e w low =
    let here = below_passes (λ w. is_once (TakeP w) plan && comes_before Fence (TakeP w) plan && comes_before GFence (TakeP w) plan) words w e low in
    let p2 = and_parts _ (comes_before GFence (TakeP w) plan) here in
    let p1 = and_parts (is_once (TakeP w) plan) (comes_before Fence (TakeP w) plan) p2.0 in
    record { once = p1.0; fence = p1.1; gfence = p2.1 }

passed : (b : Bool) (r : ℕ) (later : Option ℕ) → (if b then later else Some r) ≡ None → (b ≡ true) × (later ≡ None)
passed true r later e = (refl, e)
passed false r later e = absurd (false≢true (ap is_none e))

-- What a plan that keeps the rule keeps.
pub record Keeps (kind : Kind) (words : ℕ) (plan : WrittenPlan) : Type 0 where
  pub turns : turns_routes kind plan ≡ true
  pub late : takes_late words plan ≡ true
  pub pending : puts_at_once plan ≡ true
  pub enables : moves_enables words plan ≡ true

pub keeps_all : (kind : Kind) (words : ℕ) (plan : WrittenPlan) → failing kind words plan ≡ None → Keeps kind words plan
keeps_all kind words plan e =
    let p1 = passed (turns_routes kind plan) 1 (first_failing 2 (takes_late words plan ∷ puts_at_once plan ∷ moves_enables words plan ∷ [])) e in
    let p2 = passed (takes_late words plan) 2 (first_failing 3 (puts_at_once plan ∷ moves_enables words plan ∷ [])) p1.1 in
    let p3 = passed (puts_at_once plan) 3 (first_failing 4 (moves_enables words plan ∷ [])) p2.1 in
    let p4 = passed (moves_enables words plan) 4 None p3.1 in
    record { turns = p1.0; late = p2.0; pending = p3.0; enables = p4.0 }

-- ---- the theorem

pub rule_is_safe : (kind : Kind) (words : ℕ) (plan : WrittenPlan) → All (IsInside words) plan → failing kind words plan ≡ None → IsSafe words plan
rule_is_safe kind words plan inside e =
    let keeps = keeps_all kind words plan e in
    let turns = all_turns kind plan keeps.turns in
    let late = all_late words plan keeps.late in
    let enables = and_parts (all_below (λ w. is_once (TakeE w) plan) words) (are_paired takes_enables puts_enables None plan) keeps.enables in
    let enables_once : (w : ℕ) → w < words → is_once (TakeE w) plan ≡ true =
    λ w low. below_passes (λ w. is_once (TakeE w) plan) words w enables.0 low in
    left_is_safe words plan
    (record {
      one_word0 = once_before Word0 plan turns.word0;
      one_fence = once_before Fence plan turns.fence;
      one_gfence = once_before GFence plan turns.gfence;
      one_record = record_before_record kind plan turns.others ∙ comes_before-before (own_record kind) (own_record kind) plan
          ∙ once_before (own_record kind) plan turns.own;
      word0_first = in_order Word0 Fence plan turns.word0_first;
      record_first = record_before kind GFence plan turns.others ∙ turns.own_first;
      fence_first = λ w low. in_order Fence (TakeP w) plan (late w low).fence;
      gfence_first = λ w low. in_order GFence (TakeP w) plan (late w low).gfence;
      one_enables = λ w low. once_before (TakeE w) plan (enables_once w low);
      inside = by_recursion (IsInside words) plan inside;
      pending_paired = keeps.pending;
      enables_paired = enables.1;
    })
    (record {
      word0 = once_stands Word0 plan turns.word0;
      fence = once_stands Fence plan turns.fence;
      record_step = any_record kind plan turns.others ∙ once_stands (own_record kind) plan turns.own;
      gfence = once_stands GFence plan turns.gfence;
      pending = λ w low. once_stands (TakeP w) plan (late w low).once;
      enables = λ w low. once_stands (TakeE w) plan (enables_once w low);
    })
