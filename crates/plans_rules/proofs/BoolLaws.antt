-- Laws of tests.
use Rattle.std.proofs.Common.{◌≡◌, ℕ, zero, suc, ◌<◌, Bool, true, false, ◌&&◌, ◌||◌, ◌⊎◌, inl, inr, refl, sym, ap, ◌∙◌, arith}
use Rattle.std.proofs.lemmas.Bool.{cases_eq, false≢true}
pub use Rattle.std.proofs.lemmas.Bool.{or_left, or_right, or_cases, false_from_ne_true as false_of, true_from_ne_false as true_of, not-true as not_true, and_from as and_of, and_left as and_false_left, and_right as and_false_right, or_from as or_false}
use Rattle.plans_rules.specs.Setting.{all_below, any_below}

pub by_case : {A : Type 0} (b : Bool) → (b ≡ true → A) → (b ≡ false → A) → A
by_case true f g = f refl
by_case false f g = g refl

pub clash : {A : Type 0} (b : Bool) → b ≡ true → b ≡ false → A
clash b e f = absurd (false≢true (sym f ∙ e))

pub and_left : (a b : Bool) → (a && b) ≡ true → a ≡ true
and_left true b e = refl
and_left false b e = absurd (false≢true e)

pub and_right : (a b : Bool) → (a && b) ≡ true → b ≡ true
and_right true b e = e
and_right false b e = absurd (false≢true e)

pub or_false_left : (a b : Bool) → (a || b) ≡ false → a ≡ false
or_false_left true b e = absurd (false≢true (sym e))
or_false_left false b e = refl

pub or_false_right : (a b : Bool) → (a || b) ≡ false → b ≡ false
or_false_right true b e = absurd (false≢true (sym e))
or_false_right false b e = e

-- what a step adds where it is of a place, and what it leaves elsewhere
pub added_cases : (here new old : Bool) → (elim here [ true ↦ new || old | false ↦ old ]) ≡ true → ((here ≡ true) × (new ≡ true)) ⊎ (old ≡ true)
added_cases true true old e = inl (refl, refl)
added_cases true false old e = inr e
added_cases false new old e = inr e

pub added_stays : (here new old : Bool) → old ≡ true → (elim here [ true ↦ new || old | false ↦ old ]) ≡ true
added_stays true new old e = or_right new old e
added_stays false new old e = e

pub all_of : (is : ℕ → Bool) (count : ℕ) → ((p : ℕ) → p < count → is p ≡ true) → all_below is count ≡ true
all_of is zero h = refl
all_of is (suc n) h = and_of (is n) _ (h n (omega arith)) (all_of is n (λ p low. h p (omega (arith, low))))

pub all_at : (is : ℕ → Bool) (count p : ℕ) → all_below is count ≡ true → p < count → is p ≡ true
all_at is zero p e inside = absurd (omega arith)
all_at is (suc n) p e inside = elim (cases_eq p n) [
  | inl same ↦ ap is same ∙ and_left (is n) _ e
  | inr other ↦ all_at is n p (and_right (is n) _ e) (omega arith)
]

any_law : (a b : Bool) → b ≡ true → (elim a [ true ↦ true | false ↦ b ]) ≡ true
any_law true b e = refl
any_law false b e = e

any_here : (a b : Bool) → a ≡ true → (elim a [ true ↦ true | false ↦ b ]) ≡ true
any_here true b e = refl
any_here false b e = absurd (false≢true e)

pub any_at : (is : ℕ → Bool) (count p : ℕ) → p < count → is p ≡ true → any_below is count ≡ true
any_at is zero p inside e = absurd (omega arith)
any_at is (suc n) p inside e = elim (cases_eq p n) [
  | inl same ↦ any_here (is n) _ (sym (ap is same) ∙ e)
  | inr other ↦ any_law (is n) _ (any_at is n p (omega arith) e)
]

pub all_more : (f g : ℕ → Bool) (count : ℕ) → ((p : ℕ) → f p ≡ true → g p ≡ true) → all_below f count ≡ true → all_below g count ≡ true
all_more f g zero h e = refl
all_more f g (suc n) h e = and_of (g n) _ (h n (and_left (f n) _ e)) (all_more f g n h (and_right (f n) _ e))

more_law : (a b s t : Bool) → (a ≡ true → b ≡ true) → (s ≡ true → t ≡ true) → (elim a [ true ↦ true | false ↦ s ]) ≡ true
    → (elim b [ true ↦ true | false ↦ t ]) ≡ true
more_law true b s t h k e = any_here b t (h refl)
more_law false b s t h k e = any_law b t (k e)

pub any_more : (f g : ℕ → Bool) (count : ℕ) → ((p : ℕ) → f p ≡ true → g p ≡ true) → any_below f count ≡ true → any_below g count ≡ true
any_more f g zero h e = absurd (false≢true e)
any_more f g (suc n) h e = more_law (f n) (g n) _ _ (h n) (any_more f g n h) e

-- one that does not pass, where not all do; one that does, where any does
pub all_find : (is : ℕ → Bool) (count : ℕ) → all_below is count ≡ false → (p : ℕ) × (p < count) × (is p ≡ false)
all_find is zero e = absurd (false≢true (sym e))
all_find is (suc n) e = find (is n) refl (all_find is n) e
  where
    find : (b : Bool) → b ≡ is n → (all_below is n ≡ false → (p : ℕ) × (p < n) × (is p ≡ false)) → (b && all_below is n) ≡ false → (p : ℕ)
        × (p < suc n) × (is p ≡ false)
    find true same again e = (let found = again e in (found.0, omega (arith, found.1), found.2))
    find false same again e = (n, omega arith, sym same)

pub any_find : (is : ℕ → Bool) (count : ℕ) → any_below is count ≡ true → (p : ℕ) × (p < count) × (is p ≡ true)
any_find is zero e = absurd (false≢true e)
any_find is (suc n) e = find (is n) refl (any_find is n) e
  where
    find : (b : Bool) → b ≡ is n → (any_below is n ≡ true → (p : ℕ) × (p < n) × (is p ≡ true))
        → (elim b [ true ↦ true | false ↦ any_below is n ]) ≡ true → (p : ℕ) × (p < suc n) × (is p ≡ true)
    find true same again e = (n, omega arith, sym same)
    find false same again e = (let found = again e in (found.0, omega (arith, found.1), found.2))
