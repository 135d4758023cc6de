-- The plans of the core keep the rule: for each kind and each number of words it is computed. And
-- they name words of the file alone.
use Rattle.std.proofs.Common.{◌≡◌, ℕ, zero, suc, ◌+◌, ◌<◌, ◌≤◌, Bool, true, false, [], ◌∷◌, ◌++◌, None, inl, inr, refl, sym, subst, arith}
use Rattle.std.proofs.lemmas.Bool.{and_parts}
use Rattle.std.specs.List.{All, AllByRecursion, list_all}
use Rattle.aia_regs.specs.declared.limits.TheConstants.{FILE_WORDS}
use Rattle.aia_plan.specs.declared.step.Kind.{Kind}
use Rattle.aia_plan.specs.declared.step.Kind.TheVariants.{Leave, Arrive, Shift}
use Rattle.aia_plan.specs.declared.step.Step.{Step}
use Rattle.aia_plan.specs.declared.step.Step.TheVariants.{TakeP, PutP, TakeE, PutE, Look}
use Rattle.aia_plan.specs.Plan.{WrittenPlan, IsWidth, IsInside, each_word, all_words, first_steps, last_steps, core_plan}
use Rattle.aia_plan.specs.Rule.{failing}
use Rattle.aia_plan.proofs.Throughout.{by_place}

-- what holds of the six numbers of words holds of each
pub of_width : (P : ℕ → Type 0) → P 1 → P 2 → P 4 → P 8 → P 16 → P FILE_WORDS → (words : ℕ) → IsWidth words → P words
of_width P p1 p2 p4 p8 p16 p32 words (inl e) = subst P (sym e) p1
of_width P p1 p2 p4 p8 p16 p32 words (inr (inl e)) = subst P (sym e) p2
of_width P p1 p2 p4 p8 p16 p32 words (inr (inr (inl e))) = subst P (sym e) p4
of_width P p1 p2 p4 p8 p16 p32 words (inr (inr (inr (inl e)))) = subst P (sym e) p8
of_width P p1 p2 p4 p8 p16 p32 words (inr (inr (inr (inr (inl e))))) = subst P (sym e) p16
of_width P p1 p2 p4 p8 p16 p32 words (inr (inr (inr (inr (inr e))))) = subst P (sym e) p32

pub at_most_32 : (words : ℕ) → IsWidth words → words ≤ 32
at_most_32 = of_width (λ words. words ≤ 32) (omega arith) (omega arith) (omega arith) (omega arith) (omega arith) (omega arith)

pub plans_keep : (kind : Kind) (words : ℕ) → IsWidth words → failing kind words (core_plan kind words) ≡ None
plans_keep Leave = of_width (λ words. failing Leave words (core_plan Leave words) ≡ None) refl refl refl refl refl refl
plans_keep Arrive = of_width (λ words. failing Arrive words (core_plan Arrive words) ≡ None) refl refl refl refl refl refl
plans_keep Shift = of_width (λ words. failing Shift words (core_plan Shift words) ≡ None) refl refl refl refl refl refl

-- ---- the words that they name

appended : (P : Step → Type 0) (xs ys : WrittenPlan) → AllByRecursion P xs → AllByRecursion P ys → AllByRecursion P (xs ++ ys)
appended P [] ys all others = others
appended P (x ∷ xs) ys all others = (all.0, appended P xs ys all.1 others)

each_inside : (words : ℕ) (of_word : ℕ → WrittenPlan) → ((w : ℕ) → w < words → AllByRecursion (IsInside words) (of_word w)) → (from count : ℕ)
    → from + count ≤ words → AllByRecursion (IsInside words) (each_word of_word from count)
each_inside words of_word each from zero most = tt
each_inside words of_word each from (suc count) most =
    appended (IsInside words) (of_word from) (each_word of_word (suc from) count) (each from (omega arith))
    (each_inside words of_word each (suc from) count (omega arith))

all_inside : (words : ℕ) → AllByRecursion (IsInside words) (all_words words)
all_inside words =
    appended (IsInside words) (each_word (λ w. TakeP w ∷ PutP w ∷ []) 0 words) (each_word (λ w. TakeE w ∷ PutE w ∷ []) 0 words)
    (each_inside words (λ w. TakeP w ∷ PutP w ∷ []) (λ w low. (low, (low, tt))) 0 words (omega arith))
    (each_inside words (λ w. TakeE w ∷ PutE w ∷ []) (λ w low. (low, (low, tt))) 0 words (omega arith))

looks_inside : (words : ℕ) → AllByRecursion (IsInside words) (each_word (λ w. Look w ∷ []) 0 words)
looks_inside words = each_inside words (λ w. Look w ∷ []) (λ w low. (low, tt)) 0 words (omega arith)

-- steps in front, all words, and steps at the end
around : (words : ℕ) (front last : WrittenPlan) → AllByRecursion (IsInside words) front → AllByRecursion (IsInside words) last
    → AllByRecursion (IsInside words) (front ++ all_words words ++ last)
around words front last first end = appended (IsInside words) (front ++ all_words words) last
    (appended (IsInside words) front (all_words words) first (all_inside words)) end

-- a step that names no word
abbrev is_plain : Step → Bool
is_plain (TakeP w) = false
is_plain (PutP w) = false
is_plain (TakeE w) = false
is_plain (PutE w) = false
is_plain (Look w) = false
is_plain step = true

one_inside : (words : ℕ) (step : Step) → is_plain step ≡ true → IsInside words step
one_inside words (TakeP w) e = absurd (cc)
one_inside words (PutP w) e = absurd (cc)
one_inside words (TakeE w) e = absurd (cc)
one_inside words (PutE w) e = absurd (cc)
one_inside words (Look w) e = absurd (cc)
one_inside words step e = tt

plain_inside : (words : ℕ) (plan : WrittenPlan) → list_all is_plain plan ≡ true → AllByRecursion (IsInside words) plan
plain_inside words [] e = tt
plain_inside words (x ∷ later) e = let both = and_parts (is_plain x) (list_all is_plain later) e in
    (one_inside words x both.0, plain_inside words later both.1)

first_inside : (kind : Kind) (words : ℕ) → AllByRecursion (IsInside words) (first_steps kind)
first_inside Leave words = plain_inside words (first_steps Leave) refl
first_inside Arrive words = plain_inside words (first_steps Arrive) refl
first_inside Shift words = plain_inside words (first_steps Shift) refl

last_inside : (kind : Kind) (words : ℕ) → AllByRecursion (IsInside words) (last_steps kind)
last_inside Leave words = plain_inside words (last_steps Leave) refl
last_inside Arrive words = plain_inside words (last_steps Arrive) refl
last_inside Shift words = plain_inside words (last_steps Shift) refl

core_inside : (kind : Kind) (words : ℕ) → AllByRecursion (IsInside words) (core_plan kind words)
core_inside Leave words =
    let looks : WrittenPlan = each_word (λ w. Look w ∷ []) 0 words in
    appended (IsInside words) (first_steps Leave ++ all_words words ++ looks) (last_steps Leave)
    (around words (first_steps Leave) looks (first_inside Leave words) (looks_inside words))
    (last_inside Leave words)
core_inside Arrive words = around words (first_steps Arrive) (last_steps Arrive) (first_inside Arrive words) (last_inside Arrive words)
core_inside Shift words = around words (first_steps Shift) (last_steps Shift) (first_inside Shift words) (last_inside Shift words)

pub core_is_inside : (kind : Kind) (words : ℕ) → All (IsInside words) (core_plan kind words)
core_is_inside kind words = by_place (IsInside words) (core_plan kind words) (core_inside kind words)
