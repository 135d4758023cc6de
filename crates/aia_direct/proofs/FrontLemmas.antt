-- The first pair of a rising list that a threshold lets through is the least of them.
use Rattle.std.proofs.Common.{◌≡◌, ℕ, zero, suc, ◌<◌, ◌≤◌, Bool, true, false, cond, List, [], ◌∷◌, slice_get, Option, Some, None, IfSome, ◌⊎◌, inl, inr, refl, sym, ap, ◌∙◌, arith}
use Rattle.std.specs.List.{All}
use Rattle.std.proofs.lemmas.Bool.{cond-true, cond-false, or_parts, or_from, le-ltb, lt-ltb, ltb-false}
use Rattle.std.proofs.lemmas.Option.{none-some, same_Some}
use Rattle.aia_regs.specs.Top.{Pair, ComesFirst, NamesItself, lesser, least_pair}
use Rattle.aia_regs.proofs.TopLemmas.{lesser-none, least_pair-none, least_pair-suc}
use Rattle.aia_word.specs.Top.{lets_through}
use Rattle.aia_domain.specs.Order.{comes_before, IsRising, put_in, put_if, ordered}
use Rattle.aia_domain.proofs.OrderLemmas.{is_before, not_before, rising_tail}
use Rattle.aia_domain.proofs.OrderedLemmas.{ordered_all, ordered_rising}
use Rattle.aia_direct.specs.Front.{if_through, through, first_through}

-- ---- the first pair of a rising list

no_more : (p q : Pair) → ComesFirst p q → p.0 ≤ q.0
no_more p q (inl a) = omega arith
no_more p q (inr a) = omega (arith, a.0)

head_low : (q r : Pair) (rs : List Pair) → IsRising (q ∷ r ∷ rs) → q.0 ≤ r.0
head_low q r rs rising = no_more q r (not_before r q (rising 0 1 q (omega arith) (omega arith)))

-- where the first is held back, all are
none_through : (threshold : ℕ) (q : Pair) (qs : List Pair) → IsRising (q ∷ qs) → lets_through threshold q.0 ≡ false
    → first_through threshold qs ≡ None
none_through threshold q [] rising held = refl
none_through threshold q (r ∷ rs) rising held =
    let parts = or_parts _ _ held in
    let low = head_low q r rs rising in
    let later : lets_through threshold r.0 ≡ false =
    or_from _ _ parts.0 (le-ltb r.0 threshold (omega (arith, ltb-false q.0 threshold parts.1, low))) in
    cond-false _ _ _ later ∙ none_through threshold r rs (rising_tail q (r ∷ rs) rising) later

pub first_of_rising : (threshold : ℕ) (p : Pair) (ps : List Pair) → IsRising ps → Some p ≡ slice_get ps 0
    → if_through threshold (Some p) ≡ first_through threshold ps
first_of_rising threshold p [] rising found = absurd (none-some p (sym found))
first_of_rising threshold p (q ∷ qs) rising found = ap (λ x. if_through threshold (Some x)) (same_Some p q found)
    ∙ at (lets_through threshold q.0) refl
  where
    at : (b : Bool) → lets_through threshold q.0 ≡ b → cond b (Some q) None ≡ cond b (Some q) (first_through threshold qs)
    at true e = refl
    at false e = sym (none_through threshold q qs rising e)

pub first_of_none : (threshold : ℕ) (ps : List Pair) → ◌≡◌ {A = Option Pair} None (slice_get ps 0)
    → ◌≡◌ {A = Option Pair} None (first_through threshold ps)
first_of_none threshold [] none = refl
first_of_none threshold (q ∷ qs) none = absurd (none-some q none)

pub first_all : (P : Pair → Type 0) (threshold : ℕ) (ps : List Pair) → All P ps → IfSome (first_through threshold ps) P
first_all P threshold [] all = tt
first_all P threshold (q ∷ qs) all = at (lets_through threshold q.0) (first_all P threshold qs (λ k d low. all (suc k) d (omega arith)))
  where
    at : (b : Bool) → IfSome (first_through threshold qs) P → IfSome (cond b (Some q) (first_through threshold qs)) P
    at true rest = all 0 q (omega arith)
    at false rest = rest

-- ---- with one more

-- none that is let through is less than one that is no greater than the first
first_after : (threshold : ℕ) (p q : Pair) (qs : List Pair) → IsRising (q ∷ qs) → p.0 ≤ q.0
    → lesser (Some p) (first_through threshold (q ∷ qs)) ≡ Some p
first_after threshold p q [] rising low = at (lets_through threshold q.0)
  where
    at : (b : Bool) → lesser (Some p) (cond b (Some q) None) ≡ Some p
    at true = cond-false _ _ _ (le-ltb q.0 p.0 low)
    at false = refl
first_after threshold p q (r ∷ rs) rising low =
    at (lets_through threshold q.0) (first_after threshold p r rs (rising_tail q (r ∷ rs) rising) (omega (arith, low, head_low q r rs rising)))
  where
    at : (b : Bool) → lesser (Some p) (first_through threshold (r ∷ rs)) ≡ Some p
        → lesser (Some p) (cond b (Some q) (first_through threshold (r ∷ rs))) ≡ Some p
    at true rest = cond-false _ _ _ (le-ltb q.0 p.0 low)
    at false rest = rest

pub first_put : (threshold : ℕ) (p : Pair) (ps : List Pair) → All (λ (q : Pair). p.1 ≤ q.1) ps → IsRising ps
    → first_through threshold (put_in p ps) ≡ lesser (if_through threshold (Some p)) (first_through threshold ps)
first_put threshold p [] above rising = sym (lesser-none _)
first_put threshold p (q ∷ qs) above rising = at (comes_before q p) refl
    (first_put threshold p qs (λ k d low. above (suc k) d (omega arith)) (rising_tail q qs rising))
  where
    less : (q.0 < p.0) ⊎ ((q.0 ≡ p.0) × (q.1 < p.1)) → q.0 < p.0
    less (inl a) = a
    less (inr b) = let high = above 0 q (omega arith) in absurd (omega (arith, b.1, high))

    behind : q.0 < p.0 → (a b : Bool) → first_through threshold (put_in p qs) ≡ lesser (cond b (Some p) None) (first_through threshold qs)
        → cond a (Some q) (first_through threshold (put_in p qs)) ≡ lesser (cond b (Some p) None) (cond a (Some q) (first_through threshold qs))
    behind low true true rest = sym (cond-true _ _ _ (lt-ltb q.0 p.0 low))
    behind low true false rest = refl
    behind low false b rest = rest

    ahead : p.0 ≤ q.0 → (b : Bool) → cond b (Some p) (first_through threshold (q ∷ qs)) ≡ lesser (cond b (Some p) None)
        (first_through threshold (q ∷ qs))
    ahead low true = sym (first_after threshold p q qs rising low)
    ahead low false = refl

    at : (b : Bool) → comes_before q p ≡ b → first_through threshold (put_in p qs) ≡ lesser (if_through threshold (Some p))
        (first_through threshold qs) → first_through threshold (cond b (q ∷ put_in p qs) (p ∷ q ∷ qs)) ≡ lesser (if_through threshold (Some p))
        (first_through threshold (q ∷ qs))
    at true is rest = behind (less (is_before q p is)) (lets_through threshold q.0) (lets_through threshold p.0) rest
    at false is rest = ahead (no_more p q (not_before q p is)) (lets_through threshold p.0)

-- ---- all of a range

-- the pairs of a range have its numbers
numbered : (candidate : ℕ → Option Pair) (from count : ℕ) → NamesItself candidate → All (λ (q : Pair). from ≤ q.1) (ordered candidate from count)
numbered candidate from count own = ordered_all (λ (q : Pair). from ≤ q.1) candidate from count (λ s q low high is. omega (arith, own s q is))

-- the first of the rising list that is let through is the least of those that are
pub first_is_least : (threshold : ℕ) (candidate : ℕ → Option Pair) (from count : ℕ) → NamesItself candidate
    → first_through threshold (ordered candidate from count) ≡ least_pair (through threshold candidate) from count
unfolding ordered
first_is_least threshold candidate from zero own = sym (least_pair-none (through threshold candidate) from)
first_is_least threshold candidate from (suc count) own =
    at (candidate from) refl ∙ ap (lesser (if_through threshold (candidate from))) (first_is_least threshold candidate (suc from) count own)
    ∙ sym (least_pair-suc (through threshold candidate) from count)
  where
    at : (o : Option Pair) → candidate from ≡ o → first_through threshold (put_if o (ordered candidate (suc from) count)) ≡ lesser
        (if_through threshold o) (first_through threshold (ordered candidate (suc from) count))
    at None e = refl
    at (Some p) e =
        let at_from : p.1 ≡ from = own from p e in
        first_put threshold p (ordered candidate (suc from) count)
        (λ k d low. let high = numbered candidate (suc from) count own k d low in omega (arith, high, at_from))
        (ordered_rising candidate (suc from) count)
