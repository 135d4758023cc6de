-- What the rule says of the steps that are left at each moment of a run.
use Rattle.std.proofs.Common.{◌≡◌, ℕ, ◌<◌, Bool, true, false, not, ◌&&◌, nat_eq, [], ◌∷◌, Option, Some, None, refl, ap}
use Rattle.std.specs.List.{list_any, AllByRecursion}
use Rattle.std.proofs.lemmas.Bool.{false≢true, eq-eqb, eqb-true, and_parts, not-true}
use Rattle.aia_plan.specs.declared.step.Step.{Step}
use Rattle.aia_plan.specs.declared.step.Step.TheVariants.{Word0, Fence, Map, Unmap, Remap, GFence, TakeP, TakeE}
use Rattle.aia_plan.specs.Plan.{WrittenPlan, IsInside, is_step}
use Rattle.aia_plan.specs.Rule.{is_same, are_paired, takes_pending, puts_pending, takes_enables, puts_enables, is_record}
use Rattle.aia_plan.proofs.StepKept.{Guard}

-- Whether no step that passes one test has one that passes another behind it: `comes_before` said
-- of tests.
abbrev pub before : (Step → Bool) → (Step → Bool) → WrittenPlan → Bool
before first second [] = true
before first second (x ∷ later) = not (second x && list_any first later) && before first second later

abbrev pub Before : (Step → Bool) → (Step → Bool) → WrittenPlan → Type 0
Before first second rest = before first second rest ≡ true

-- The steps that are left keep the rule, as far as it speaks of what stands behind what; c and e
-- are the words that the step just before them took.
pub record Left (words : ℕ) (c e : Option ℕ) (rest : WrittenPlan) : Type 0 where
  pub one_word0 : Before (is_step Word0) (is_step Word0) rest
  pub one_fence : Before (is_step Fence) (is_step Fence) rest
  pub one_gfence : Before (is_step GFence) (is_step GFence) rest
  pub one_record : Before is_record is_record rest
  pub word0_first : Before (is_step Word0) (is_step Fence) rest
  pub record_first : Before is_record (is_step GFence) rest
  pub fence_first : (w : ℕ) → w < words → Before (is_step Fence) (is_step (TakeP w)) rest
  pub gfence_first : (w : ℕ) → w < words → Before (is_step GFence) (is_step (TakeP w)) rest
  pub one_enables : (w : ℕ) → w < words → Before (is_step (TakeE w)) (is_step (TakeE w)) rest
  pub inside : AllByRecursion (IsInside words) rest
  pub pending_paired : are_paired takes_pending puts_pending c rest ≡ true
  pub enables_paired : are_paired takes_enables puts_enables e rest ≡ true

-- ---- one step further

after : (first second : Step → Bool) (x : Step) (rest : WrittenPlan) → Before first second (x ∷ rest) → Before first second rest
after first second x rest h = (and_parts (not (second x && list_any first rest)) (before first second rest) h).1

none_after : (second any : Bool) → not (second && any) ≡ true → second ≡ true → any ≡ false
none_after true any h e = not-true any h
none_after false any h e = absurd (false≢true e)

none_behind : (first second : Step → Bool) (x : Step) (rest : WrittenPlan) → Before first second (x ∷ rest)
    → second x ≡ true → list_any first rest ≡ false
none_behind first second x rest h e = none_after (second x) (list_any first rest)
    (and_parts (not (second x && list_any first rest)) (before first second rest) h).0 e

pub left_after : (words : ℕ) (c e : Option ℕ) (x : Step) (rest : WrittenPlan) → Left words c e (x ∷ rest)
    → Left words (takes_pending x) (takes_enables x) rest
left_after words c e x rest r = record {
  one_word0 = after _ _ x rest r.one_word0;
  one_fence = after _ _ x rest r.one_fence;
  one_gfence = after _ _ x rest r.one_gfence;
  one_record = after is_record is_record x rest r.one_record;
  word0_first = after _ _ x rest r.word0_first;
  record_first = after is_record _ x rest r.record_first;
  fence_first = λ w low. after _ (is_step (TakeP w)) x rest (r.fence_first w low);
  gfence_first = λ w low. after _ (is_step (TakeP w)) x rest (r.gfence_first w low);
  one_enables = λ w low. after (is_step (TakeE w)) (is_step (TakeE w)) x rest (r.one_enables w low);
  inside = r.inside.1;
  pending_paired = (and_parts (is_same c (puts_pending x)) _ r.pending_paired).1;
  enables_paired = (and_parts (is_same e (puts_enables x)) _ r.enables_paired).1;
}

-- ---- what is carried is what the step puts

same_words : (a b : Option ℕ) → is_same a b ≡ true → a ≡ b
same_words None None e = refl
same_words (Some v) (Some w) e = ap Some (eqb-true v w e)
same_words None (Some w) e = absurd (false≢true e)
same_words (Some v) None e = absurd (false≢true e)

pub pending_carried : (words : ℕ) (c e : Option ℕ) (x : Step) (rest : WrittenPlan) → Left words c e (x ∷ rest) → c ≡ puts_pending x
pending_carried words c e x rest r = same_words c (puts_pending x) (and_parts (is_same c (puts_pending x)) _ r.pending_paired).0

pub enables_carried : (words : ℕ) (c e : Option ℕ) (x : Step) (rest : WrittenPlan) → Left words c e (x ∷ rest) → e ≡ puts_enables x
enables_carried words c e x rest r = same_words e (puts_enables x) (and_parts (is_same e (puts_enables x)) _ r.enables_paired).0

pub none_carried : (words : ℕ) (c e : Option ℕ) → Left words c e [] → (c ≡ None) × (e ≡ None)
none_carried words c e r = (same_words c None r.pending_paired, same_words e None r.enables_paired)

-- ---- what a step needs of those behind it

itself : (w : ℕ) → nat_eq w w ≡ true
itself w = eq-eqb w w refl

pub guard_of : (words : ℕ) (c e : Option ℕ) (x : Step) (rest : WrittenPlan) → Left words c e (x ∷ rest) → Guard x rest
guard_of words c e Word0 rest r = none_behind (is_step Word0) (is_step Word0) Word0 rest r.one_word0 refl
guard_of words c e Fence rest r = (
  none_behind (is_step Word0) (is_step Fence) Fence rest r.word0_first refl,
  none_behind (is_step Fence) (is_step Fence) Fence rest r.one_fence refl,
)
guard_of words c e Map rest r = none_behind is_record is_record Map rest r.one_record refl
guard_of words c e Unmap rest r = none_behind is_record is_record Unmap rest r.one_record refl
guard_of words c e Remap rest r = none_behind is_record is_record Remap rest r.one_record refl
guard_of words c e GFence rest r = (
  none_behind is_record (is_step GFence) GFence rest r.record_first refl,
  none_behind (is_step GFence) (is_step GFence) GFence rest r.one_gfence refl,
)
guard_of words c e (TakeP w) rest r = (
  none_behind (is_step Fence) (is_step (TakeP w)) (TakeP w) rest (r.fence_first w r.inside.0) (itself w),
  none_behind (is_step GFence) (is_step (TakeP w)) (TakeP w) rest (r.gfence_first w r.inside.0) (itself w),
)
guard_of words c e (TakeE w) rest r = none_behind (is_step (TakeE w)) (is_step (TakeE w)) (TakeE w) rest (r.one_enables w r.inside.0) (itself w)
guard_of words c e x rest r = tt
