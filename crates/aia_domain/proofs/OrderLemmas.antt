-- Lists of pairs in rising order: where a pair stands, with one more, and without one.
use Rattle.std.proofs.Common.{◌≡◌, ℕ, zero, suc, ◌<◌, ◌≤◌, Bool, true, false, cond, nat_eq, nat_lt, ◌&&◌, List, [], ◌∷◌, length, drop, get_or, slice_get, not, ◌⊎◌, inl, inr, refl, sym, ap, subst, ◌∙◌, arith}
use Rattle.std.specs.List.{All, insert, remove}
use Rattle.std.specs.Option.{option_map_or}
use Rattle.std.specs.List.Sorted.{IsPartitionPoint, IsPartitionedBy}
use Rattle.std.proofs.lemmas.Bool.{not-true, cond-true, cond-false, cases_lt, ltb-true, ltb-false, eqb-true, lt-ltb, le-ltb, eq-eqb, ne_eqb, and_parts, and_from, and_left, and_right, or_cases, or_parts, or_from, or_left, or_right}
use Rattle.std.proofs.lemmas.List.Kept.{AllPairs-cons}
use Rattle.std.proofs.lemmas.List.Elements.{All-cons}
use Rattle.aia_regs.specs.Top.{Pair, ComesFirst}
use Rattle.aia_regs.proofs.ListLemmas.{pairs_tail}
use Rattle.aia_domain.specs.Order.{comes_before, is_pair, IsRising, put_in, taken_out}

-- ---- two pairs, said of their numbers

abbrev pub Before : Pair → Pair → Type 0
Before p q = (p.0 < q.0) ⊎ ((p.0 ≡ q.0) × (p.1 < q.1))

pub is_before : (p q : Pair) → comes_before p q ≡ true → Before p q
is_before p q e = elim (or_cases _ _ e) [
  | inl a ↦ inl (ltb-true p.0 q.0 a)
  | inr b ↦ let r = and_parts _ _ b in inr (eqb-true p.0 q.0 r.0, ltb-true p.1 q.1 r.1)
]

pub before_is : (p q : Pair) → Before p q → comes_before p q ≡ true
before_is p q (inl a) = or_left _ _ (lt-ltb p.0 q.0 a)
before_is p q (inr b) = or_right _ _ (and_from _ _ (eq-eqb p.0 q.0 b.0) (lt-ltb p.1 q.1 b.1))

-- one that doesn't come before another comes after it, or is the same
pub not_before : (p q : Pair) → comes_before p q ≡ false → ComesFirst q p
not_before p q e =
    let parts : (nat_lt p.0 q.0 ≡ false) × ((nat_eq p.0 q.0 && nat_lt p.1 q.1) ≡ false) = or_parts _ _ e in
    elim (cases_lt q.0 p.0) [
      | inl a ↦ inl a
      | inr b ↦
          let same : q.0 ≡ p.0 = omega (arith, ltb-false p.0 q.0 parts.0, b) in
          inr (
            same,
            elim (cases_lt p.1 q.1) [
              | inl less ↦ absurd (let bad : ◌≡◌ {A = Bool} true false = sym (and_from _ _ (eq-eqb p.0 q.0 (sym same)) (lt-ltb p.1 q.1 less))
                  ∙ parts.1 in cc)
              | inr more ↦ more
            ],
          )
    ]

pub not_before_is : (p q : Pair) → ComesFirst q p → comes_before p q ≡ false
not_before_is p q (inl a) = or_from _ _ (le-ltb p.0 q.0 (omega arith)) (and_left _ _ (ne_eqb p.0 q.0 (λ e. omega (arith, a, e))))
not_before_is p q (inr b) = or_from _ _ (le-ltb p.0 q.0 (omega (arith, b.0))) (and_right _ _ (le-ltb p.1 q.1 b.1))

pub first_before : (a b c : Pair) → ComesFirst a b → Before b c → Before a c
first_before a b c (inl x) (inl y) = inl (omega arith)
first_before a b c (inl x) (inr y) = inl (omega (arith, y.0))
first_before a b c (inr x) (inl y) = inl (omega (arith, x.0))
first_before a b c (inr x) (inr y) = inr (x.0 ∙ y.0, omega (arith, x.1, y.1))

pub before_first : (a b c : Pair) → Before a b → ComesFirst b c → Before a c
before_first a b c (inl x) (inl y) = inl (omega arith)
before_first a b c (inl x) (inr y) = inl (omega (arith, y.0))
before_first a b c (inr x) (inl y) = inl (omega (arith, x.0))
before_first a b c (inr x) (inr y) = inr (x.0 ∙ y.0, omega (arith, x.1, y.1))

pub first_first : (a b c : Pair) → ComesFirst a b → ComesFirst b c → ComesFirst a c
first_first a b c (inl x) (inl y) = inl (omega arith)
first_first a b c (inl x) (inr y) = inl (omega (arith, y.0))
first_first a b c (inr x) (inl y) = inl (omega (arith, x.0))
first_first a b c (inr x) (inr y) = inr (x.0 ∙ y.0, omega (arith, x.1, y.1))

pub before_not_first : (p q : Pair) → Before p q → ComesFirst q p → ⊥
before_not_first p q (inl x) (inl y) = omega arith
before_not_first p q (inl x) (inr y) = omega (arith, y.0)
before_not_first p q (inr x) (inl y) = omega (arith, x.0)
before_not_first p q (inr x) (inr y) = omega (arith, x.1, y.1)

pub before_comes_first : (p q : Pair) → Before p q → ComesFirst p q
before_comes_first p q (inl x) = inl x
before_comes_first p q (inr x) = inr (x.0, omega (arith, x.1))

-- one that comes first and is another comes before
pub first_other : (p q : Pair) → ComesFirst p q → is_pair p q ≡ false → Before p q
first_other p q (inl x) other = inl x
first_other p q (inr x) other = elim (cases_lt p.1 q.1) [
  | inl less ↦ inr (x.0, less)
  | inr more ↦ absurd (let bad : ◌≡◌ {A = Bool} true false = sym (and_from _ _ (eq-eqb p.0 q.0 x.0) (eq-eqb p.1 q.1 (omega (arith, x.1, more))))
      ∙ other in cc)
]

pub before_other : (p q : Pair) → Before p q → is_pair p q ≡ false
before_other p q (inl x) = and_left _ _ (ne_eqb p.0 q.0 (λ e. omega (arith, x, e)))
before_other p q (inr x) = and_right _ _ (ne_eqb p.1 q.1 (λ e. omega (arith, x.1, e)))

pub after_other : (p q : Pair) → Before q p → is_pair p q ≡ false
after_other p q (inl x) = and_left _ _ (ne_eqb p.0 q.0 (λ e. omega (arith, x, e)))
after_other p q (inr x) = and_right _ _ (ne_eqb p.1 q.1 (λ e. omega (arith, x.1, e)))

pub same_pair : (p : Pair) → is_pair p p ≡ true
same_pair p = and_from _ _ (eq-eqb p.0 p.0 refl) (eq-eqb p.1 p.1 refl)

pub pair_same : (p q : Pair) → is_pair p q ≡ true → p ≡ q
pair_same p q e = let r = and_parts _ _ e in let a = eqb-true p.0 q.0 r.0 in let b = eqb-true p.1 q.1 r.1 in ap (λ x. (x, p.1)) a
    ∙ ap (λ y. (q.0, y)) b

-- ---- the place of a pair

pub rising_tail : (q : Pair) (qs : List Pair) → IsRising (q ∷ qs) → IsRising qs
rising_tail q qs = pairs_tail (λ p q. comes_before q p ≡ false) q qs

-- a rising list is cut in two by the pairs that come before one
pub rising_parted : (p : Pair) (xs : List Pair) → IsRising xs → IsPartitionedBy (λ q. comes_before q p) xs
rising_parted p xs rising i j d low within is = elim (cases_lt i j) [
  | inl less ↦ before_is (get_or xs i d) p (first_before (get_or xs i d) (get_or xs j d) p
      (not_before (get_or xs j d) (get_or xs i d) (rising i j d less within)) (is_before (get_or xs j d) p is))
  | inr more ↦ let e : j ≡ i = omega arith in subst (λ k. comes_before (get_or xs k d) p ≡ true) e is
]

-- behind those that come before it, and ahead of the others, a pair stands at its place
pub put_at : (p : Pair) (xs : List Pair) (i : ℕ) → i ≤ length xs
    → IsPartitionPoint (λ q. comes_before q p ≡ true) (λ q. comes_before q p ≡ false) xs i → insert xs i p ≡ put_in p xs
put_at p [] zero low point = refl
put_at p [] (suc i) low point = absurd (omega arith)
put_at p (q ∷ qs) zero low point = sym (cond-false _ _ _ (point.1 0 p (omega arith) (omega arith)))
put_at p (q ∷ qs) (suc i) low point =
    ap (λ ys. q ∷ ys) (put_at p qs i (omega arith)
    (λ k d a b. point.0 (suc k) d (omega arith) (omega arith), λ k d a b. point.1 (suc k) d (omega arith) (omega arith)))
    ∙ sym (cond-true _ _ _ (point.0 0 p (omega arith) (omega arith)))

-- nothing is taken out of those that all come after
none_after : (p q : Pair) (qs : List Pair) → IsRising (q ∷ qs) → Before p q → taken_out p qs ≡ qs
none_after p q [] rising before = refl
none_after p q (r ∷ rs) rising before =
    let later = before_first p q r before (not_before r q (rising 0 1 q (omega arith) (omega arith))) in
    cond-false _ _ _ (before_other p r later) ∙ ap (λ ys. r ∷ ys) (none_after p r rs (rising_tail q (r ∷ rs) rising) later)

-- where it stands at its place, it is taken out there; else it stands nowhere
pub out_there : (p : Pair) (xs : List Pair) (i : ℕ) (d : Pair) → IsRising xs → i < length xs
    → IsPartitionPoint (λ q. comes_before q p ≡ true) (λ q. comes_before q p ≡ false) xs i → is_pair p (get_or xs i d) ≡ true
    → remove xs i ≡ taken_out p xs
out_there p [] i d rising low point is = absurd (omega arith)
out_there p (q ∷ qs) zero d rising low point is = sym (cond-true _ _ _ is)
out_there p (q ∷ qs) (suc i) d rising low point is =
    ap (λ ys. q ∷ ys) (out_there p qs i d (rising_tail q qs rising) (omega arith)
    (λ k d a b. point.0 (suc k) d (omega arith) (omega arith), λ k d a b. point.1 (suc k) d (omega arith) (omega arith)) is)
    ∙ sym (cond-false _ _ _ (after_other p q (is_before q p (point.0 0 p (omega arith) (omega arith)))))

pub out_nowhere : (p : Pair) (xs : List Pair) (i : ℕ) → IsRising xs → i ≤ length xs
    → IsPartitionPoint (λ q. comes_before q p ≡ true) (λ q. comes_before q p ≡ false) xs i
    → (i < length xs → (d : Pair) × (is_pair p (get_or xs i d) ≡ false)) → xs ≡ taken_out p xs
out_nowhere p [] i rising low point other = refl
out_nowhere p (q ∷ qs) zero rising low point other =
    let not_it = (other (omega arith)).1 in
    let before = first_other p q (not_before q p (point.1 0 p (omega arith) (omega arith))) not_it in
    sym (cond-false _ _ _ not_it ∙ ap (λ ys. q ∷ ys) (none_after p q qs rising before))
out_nowhere p (q ∷ qs) (suc i) rising low point other =
    ap (λ ys. q ∷ ys) (out_nowhere p qs i (rising_tail q qs rising) (omega arith)
    (λ k d a b. point.0 (suc k) d (omega arith) (omega arith), λ k d a b. point.1 (suc k) d (omega arith) (omega arith))
    (λ a. other (omega arith)))
    ∙ sym (cond-false _ _ _ (after_other p q (is_before q p (point.0 0 p (omega arith) (omega arith)))))

-- ---- with one more

pub put_length : (p : Pair) (xs : List Pair) → length (put_in p xs) ≡ suc (length xs)
put_length p [] = refl
put_length p (q ∷ qs) = at (comes_before q p) (put_length p qs)
  where
    at : (b : Bool) → length (put_in p qs) ≡ suc (length qs) → length (cond b (q ∷ put_in p qs) (p ∷ q ∷ qs)) ≡ suc (suc (length qs))
    at true rest = ap suc rest
    at false rest = refl

pub put_all : (P : Pair → Type 0) (p : Pair) (xs : List Pair) → P p → All P xs → All P (put_in p xs)
put_all P p [] own all = All-cons P p [] own all
put_all P p (q ∷ qs) own all = at (comes_before q p) (put_all P p qs own (λ k d low. all (suc k) d (omega arith)))
  where
    at : (b : Bool) → All P (put_in p qs) → All P (cond b (q ∷ put_in p qs) (p ∷ q ∷ qs))
    at true rest = All-cons P q (put_in p qs) (all 0 q (omega arith)) rest
    at false rest = All-cons P p (q ∷ qs) own all

head_all : (q : Pair) (qs : List Pair) → IsRising (q ∷ qs) → All (λ r. comes_before r q ≡ false) qs
head_all q qs rising k d low = rising 0 (suc k) d (omega arith) (omega arith)

pub put_rising : (p : Pair) (xs : List Pair) → IsRising xs → IsRising (put_in p xs)
put_rising p [] rising = λ i j d low within. absurd (omega arith)
put_rising p (q ∷ qs) rising = at (comes_before q p) refl (put_rising p qs (rising_tail q qs rising))
  where
    after : comes_before q p ≡ false → All (λ r. comes_before r p ≡ false) qs
    after first k d low =
        not_before_is (get_or qs k d) p (first_first p q (get_or qs k d) (not_before q p first)
        (not_before (get_or qs k d) q (rising 0 (suc k) d (omega arith) (omega arith))))

    at : (b : Bool) → comes_before q p ≡ b → IsRising (put_in p qs) → IsRising (cond b (q ∷ put_in p qs) (p ∷ q ∷ qs))
    at true is rest =
        AllPairs-cons (λ p q. comes_before q p ≡ false) q (put_in p qs)
        (put_all (λ r. comes_before r q ≡ false) p qs (not_before_is p q (before_comes_first q p (is_before q p is))) (head_all q qs rising)) rest
    at false is rest = AllPairs-cons (λ p q. comes_before q p ≡ false) p (q ∷ qs) (All-cons (λ r. comes_before r p ≡ false) q qs is (after is)) rising

-- ---- the first pair

pub put_ahead : (p : Pair) (xs : List Pair) → option_map_or (λ q. not (comes_before q p)) (slice_get xs 0) true ≡ true → put_in p xs ≡ p ∷ xs
put_ahead p [] ahead = refl
put_ahead p (x ∷ xs) ahead = cond-false _ _ _ (not-true _ ahead)

pub first_out : (p : Pair) (xs : List Pair) → option_map_or (is_pair p) (slice_get xs 0) false ≡ true → drop 1 xs ≡ taken_out p xs
first_out p [] first = refl
first_out p (x ∷ xs) first = sym (cond-true _ _ _ first)

pub rising_rest : (xs : List Pair) → IsRising xs → IsRising (drop 1 xs)
rising_rest [] rising = rising
rising_rest (x ∷ xs) rising = rising_tail x xs rising
