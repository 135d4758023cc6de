-- Parts 2 and 4 of the rule, as the checker tells them.
use Rattle.std.proofs.Common.{◌≡◌, ℕ, zero, suc, ◌<◌, ◌≤◌, Bool, true, false, not, ◌&&◌, ◌||◌, nat_eq, [], ◌∷◌, Option, Some, None, inl, inr, refl, sym, ap, ◌∙◌, arith}
use Rattle.std.specs.Prelude.{IfSome}
use Rattle.std.specs.List.{AllByRecursion}
use Rattle.std.proofs.lemmas.Bool.{cases_eq, eq-eqb, ne_eqb}
use Rattle.aia_plan.specs.declared.step.Step.{Step}
use Rattle.aia_plan.specs.declared.step.Step.TheVariants.{Fence, GFence, TakeP, PutP, TakeE, PutE, Look}
use Rattle.aia_plan.specs.Plan.{WrittenPlan, IsInside, is_step}
use Rattle.aia_plan.specs.Rule.{stands, is_once, comes_before, all_below, takes_late, takes_pending, takes_enables, names}
use Rattle.aia_plan.proofs.RuleIsSafe.{once_is}
use Rattle.aia_audit.specs.Behind.{is_taken, may_take, all_may_take, is_late, is_any_time}
use Rattle.aia_audit.proofs.TakesLemmas.{same_below}

-- ---- all numbers below one

and_together : (a b c : Bool) → ((a && b) && c) ≡ (a && (b && c))
and_together true b c = refl
and_together false b c = refl

and_exchanged : (a b c : Bool) → (a && (b && c)) ≡ (b && (a && c))
and_exchanged true true c = refl
and_exchanged true false c = refl
and_exchanged false true c = refl
and_exchanged false false c = refl

both_exchanged : (a b c d : Bool) → ((a && b) && (c && d)) ≡ ((a && c) && (b && d))
both_exchanged true true true d = refl
both_exchanged true true false d = refl
both_exchanged true false true d = refl
both_exchanged true false false d = refl
both_exchanged false b c d = refl

both_below : (p q : ℕ → Bool) (count : ℕ) → all_below (λ w. p w && q w) count ≡ (all_below p count && all_below q count)
both_below p q zero = refl
both_below p q (suc n) = ap (λ b. (p n && q n) && b) (both_below p q n) ∙ both_exchanged (p n) (q n) (all_below p n) (all_below q n)

-- where one number alone is barred from something
one_below : (bars passes : ℕ → Bool) (u count : ℕ) → u < count
    → all_below (λ w. not (nat_eq u w && bars w) && passes w) count ≡ (not (bars u) && all_below passes count)
one_below bars passes u zero low = absurd (omega arith)
one_below bars passes u (suc n) low = elim (cases_eq u n) [
  | inl same ↦
      ap (λ b. (not (b && bars n) && passes n) && all_below (λ w. not (nat_eq u w && bars w) && passes w) n) (eq-eqb u n same)
      ∙ ap (λ b. (not (bars n) && passes n) && b) (same_below (λ w. not (nat_eq u w && bars w) && passes w) passes n
      (λ w under. ap (λ b. not (b && bars w) && passes w) (ne_eqb u w (λ e. omega arith))))
      ∙ and_together (not (bars n)) (passes n) (all_below passes n)
      ∙ ap (λ k. not (bars k) && (passes n && all_below passes n)) (sym same)
  | inr other ↦
      ap (λ b. (not (b && bars n) && passes n) && all_below (λ w. not (nat_eq u w && bars w) && passes w) n) (ne_eqb u n other)
      ∙ ap (λ b. passes n && b) (one_below bars passes u n (omega arith))
      ∙ and_exchanged (passes n) (not (bars u)) (all_below passes n)
]

-- ---- steps that take a word

pending_named : (w : ℕ) (x : Step) → is_step (TakeP w) x ≡ names (takes_pending x) w
pending_named w (TakeP v) = refl
pending_named w x = refl

enables_named : (w : ℕ) (x : Step) → is_step (TakeE w) x ≡ names (takes_enables x) w
enables_named w (TakeE v) = refl
enables_named w x = refl

pending_inside : (words : ℕ) (x : Step) → IsInside words x → IfSome (takes_pending x) (λ w. w < words)
pending_inside words (TakeP v) inside = inside
pending_inside words x inside = tt

enables_inside : (words : ℕ) (x : Step) → IsInside words x → IfSome (takes_enables x) (λ w. w < words)
enables_inside words (TakeE v) inside = inside
enables_inside words x inside = tt

-- a step of a file with fewer words is one of a file with more
pub inside_more : (words more : ℕ) → words ≤ more → (x : Step) → IsInside words x → IsInside more x
inside_more words more most (TakeP v) inside = omega arith
inside_more words more most (PutP v) inside = omega arith
inside_more words more most (TakeE v) inside = omega arith
inside_more words more most (PutE v) inside = omega arith
inside_more words more most (Look v) inside = omega arith
inside_more words more most x inside = tt

-- ---- each word by itself

-- Whether word w, wherever it is taken, may be.
abbrev pub is_free : (Step → Option ℕ) → (WrittenPlan → Bool) → ℕ → WrittenPlan → Bool
is_free takes may w [] = true
is_free takes may w (x ∷ later) = not (names (takes x) w && not (may later && not (is_taken takes w later))) && is_free takes may w later

not_not : (b : Bool) → not (not b) ≡ b
not_not true = refl
not_not false = refl

none_taken : (bars passes : ℕ → Bool) (count : ℕ) → all_below (λ w. not (false && bars w) && passes w) count ≡ all_below passes count
none_taken bars passes count = refl

free_more : (takes : Step → Option ℕ) (may : WrittenPlan → Bool) (words : ℕ) (later : WrittenPlan) (taken : Option ℕ) → IfSome taken (λ w. w < words)
    → all_below (λ w. not (names taken w && not (may later && not (is_taken takes w later))) && is_free takes may w later) words
    ≡ (may_take taken (may later) (λ w. is_taken takes w later) && all_below (λ w. is_free takes may w later) words)
free_more takes may words later None inside = refl
free_more takes may words later (Some u) inside =
    one_below (λ w. not (may later && not (is_taken takes w later))) (λ w. is_free takes may w later) u words inside
    ∙ ap (λ b. b && all_below (λ w. is_free takes may w later) words) (not_not (may later && not (is_taken takes u later)))

all_free : (takes : Step → Option ℕ) (may : WrittenPlan → Bool) (words : ℕ) (plan : WrittenPlan) → AllByRecursion
    (λ x. IfSome (takes x) (λ w. w < words)) plan
    → all_below (λ w. is_free takes may w plan) words ≡ all_may_take takes may plan
all_free takes may words [] inside = all_true words
  where
    all_true : (count : ℕ) → all_below (λ w. true) count ≡ true
    all_true zero = refl
    all_true (suc n) = all_true n
all_free takes may words (x ∷ later) inside =
    free_more takes may words later (takes x) inside.0
    ∙ ap (λ b. may_take (takes x) (may later) (λ w. is_taken takes w later) && b) (all_free takes may words later inside.1)

stands_taken : (step : Step) (takes : Step → Option ℕ) (w : ℕ) → ((x : Step) → is_step step x ≡ names (takes x) w) → (plan : WrittenPlan)
    → stands step plan ≡ is_taken takes w plan
stands_taken step takes w named [] = refl
stands_taken step takes w named (x ∷ later) = ap (λ b. b || stands step later) (named x)
    ∙ ap (λ b. names (takes x) w || b) (stands_taken step takes w named later)

-- ---- part 2

late_law : (here t f g once fence gfence : Bool)
    → (((not (here && t) && once) && (not (here && f) && fence)) && (not (here && g) && gfence))
    ≡ (not (here && not ((not f && not g) && not t)) && ((once && fence) && gfence))
late_law false t f g once fence gfence = refl
late_law true true true g once fence gfence = refl
late_law true true false true once fence gfence = refl
late_law true true false false once fence gfence = refl
late_law true false true true once fence gfence = and_none once (not true && gfence)
  where
    and_none : (a b : Bool) → ((a && false) && b) ≡ false
    and_none true b = refl
    and_none false b = refl
late_law true false true false once fence gfence = and_none once gfence
  where
    and_none : (a b : Bool) → ((a && false) && b) ≡ false
    and_none true b = refl
    and_none false b = refl
late_law true false false true once fence gfence = and_none (once && fence)
  where
    and_none : (a : Bool) → (a && false) ≡ false
    and_none true = refl
    and_none false = refl
late_law true false false false once fence gfence = refl

pending_free : (w : ℕ) (plan : WrittenPlan) → (comes_before (TakeP w) (TakeP w) plan && comes_before Fence (TakeP w) plan && comes_before GFence
    (TakeP w) plan) ≡ is_free takes_pending is_late w plan
pending_free w [] = refl
pending_free w (x ∷ later) =
    late_law (is_step (TakeP w) x) (stands (TakeP w) later) (stands Fence later) (stands GFence later) (comes_before (TakeP w) (TakeP w) later)
    (comes_before Fence (TakeP w) later) (comes_before GFence (TakeP w) later)
    ∙ ap (λ b. not (b && not (is_late later && not (stands (TakeP w) later)))
    && (comes_before (TakeP w) (TakeP w) later && comes_before Fence (TakeP w) later && comes_before GFence (TakeP w) later)) (pending_named w x)
    ∙ ap (λ b. not (names (takes_pending x) w && not (is_late later && not b))
    && (comes_before (TakeP w) (TakeP w) later && comes_before Fence (TakeP w) later && comes_before GFence (TakeP w) later))
    (stands_taken (TakeP w) takes_pending w (pending_named w) later)
    ∙ ap (λ b. not (names (takes_pending x) w && not (is_late later && not (is_taken takes_pending w later))) && b) (pending_free w later)

three : (a b c d : Bool) → (((a && b) && c) && d) ≡ (a && ((b && c) && d))
three true b c d = refl
three false b c d = refl

pending_word : (w : ℕ) (plan : WrittenPlan) → (is_once (TakeP w) plan && comes_before Fence (TakeP w) plan && comes_before GFence (TakeP w) plan)
    ≡ (is_taken takes_pending w plan && is_free takes_pending is_late w plan)
pending_word w plan =
    ap (λ b. b && comes_before Fence (TakeP w) plan && comes_before GFence (TakeP w) plan) (once_is (TakeP w) plan)
    ∙ three (stands (TakeP w) plan) (comes_before (TakeP w) (TakeP w) plan) (comes_before Fence (TakeP w) plan) (comes_before GFence (TakeP w) plan)
    ∙ ap (λ b. b && (comes_before (TakeP w) (TakeP w) plan && comes_before Fence (TakeP w) plan && comes_before GFence (TakeP w) plan))
    (stands_taken (TakeP w) takes_pending w (pending_named w) plan)
    ∙ ap (λ b. is_taken takes_pending w plan && b) (pending_free w plan)

all_inside : (P Q : Step → Type 0) → ((x : Step) → P x → Q x) → (plan : WrittenPlan) → AllByRecursion P plan → AllByRecursion Q plan
all_inside P Q h [] all = tt
all_inside P Q h (x ∷ later) all = (h x all.0, all_inside P Q h later all.1)

pub taken_late : (words : ℕ) (plan : WrittenPlan) → AllByRecursion (IsInside words) plan
    → (all_below (λ w. is_taken takes_pending w plan) words && all_may_take takes_pending is_late plan) ≡ takes_late words plan
taken_late words plan inside =
    ap (λ b. all_below (λ w. is_taken takes_pending w plan) words && b)
    (sym (all_free takes_pending is_late words plan
    (all_inside (IsInside words) (λ x. IfSome (takes_pending x) (λ w. w < words)) (pending_inside words) plan inside)))
    ∙ sym (both_below (λ w. is_taken takes_pending w plan) (λ w. is_free takes_pending is_late w plan) words)
    ∙ sym (same_below (λ w. is_once (TakeP w) plan && comes_before Fence (TakeP w) plan && comes_before GFence (TakeP w) plan)
    (λ w. is_taken takes_pending w plan && is_free takes_pending is_late w plan) words (λ w low. pending_word w plan))

-- ---- part 4

once_law : (here t once : Bool) → (not (here && t) && once) ≡ (not (here && not (true && not t)) && once)
once_law here t once = ap (λ b. not (here && b) && once) (sym (not_not t))

enables_free : (w : ℕ) (plan : WrittenPlan) → comes_before (TakeE w) (TakeE w) plan ≡ is_free takes_enables is_any_time w plan
enables_free w [] = refl
enables_free w (x ∷ later) =
    once_law (is_step (TakeE w) x) (stands (TakeE w) later) (comes_before (TakeE w) (TakeE w) later)
    ∙ ap (λ b. not (b && not (true && not (stands (TakeE w) later))) && comes_before (TakeE w) (TakeE w) later) (enables_named w x)
    ∙ ap (λ b. not (names (takes_enables x) w && not (true && not b)) && comes_before (TakeE w) (TakeE w) later)
    (stands_taken (TakeE w) takes_enables w (enables_named w) later)
    ∙ ap (λ b. not (names (takes_enables x) w && not (true && not (is_taken takes_enables w later))) && b) (enables_free w later)

enables_word : (w : ℕ) (plan : WrittenPlan) → is_once (TakeE w) plan ≡ (is_taken takes_enables w plan && is_free takes_enables is_any_time w plan)
enables_word w plan =
    once_is (TakeE w) plan
    ∙ ap (λ b. b && comes_before (TakeE w) (TakeE w) plan) (stands_taken (TakeE w) takes_enables w (enables_named w) plan)
    ∙ ap (λ b. is_taken takes_enables w plan && b) (enables_free w plan)

pub taken_once : (words : ℕ) (plan : WrittenPlan) → AllByRecursion (IsInside words) plan
    → (all_below (λ w. is_taken takes_enables w plan) words && all_may_take takes_enables is_any_time plan) ≡ all_below
    (λ w. is_once (TakeE w) plan) words
taken_once words plan inside =
    ap (λ b. all_below (λ w. is_taken takes_enables w plan) words && b)
    (sym (all_free takes_enables is_any_time words plan
    (all_inside (IsInside words) (λ x. IfSome (takes_enables x) (λ w. w < words)) (enables_inside words) plan inside)))
    ∙ sym (both_below (λ w. is_taken takes_enables w plan) (λ w. is_free takes_enables is_any_time w plan) words)
    ∙ sym (same_below (λ w. is_once (TakeE w) plan) (λ w. is_taken takes_enables w plan && is_free takes_enables is_any_time w plan) words
    (λ w low. enables_word w plan))
