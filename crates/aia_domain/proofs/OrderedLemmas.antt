-- The pairs of some numbers in rising order, and what becomes of them where one number changes.
use Rattle.std.proofs.Common.{◌≡◌, ℕ, zero, suc, ◌+◌, ◌<◌, ◌≤◌, Bool, true, false, cond, nat_eq, List, [], ◌∷◌, length, get_or, Option, Some, None, ◌⊎◌, inl, inr, refl, sym, ap, subst, ◌∙◌, arith}
use Rattle.std.specs.List.{All, AllPairs, Contains}
use Rattle.std.proofs.lemmas.List.Kept.{AllPairs-cons}
use Rattle.std.proofs.lemmas.List.Elements.{All-cons}
use Rattle.std.proofs.lemmas.Bool.{cond-true, cond-false, cases_eq, eq-eqb, ne_eqb, and_right}
use Rattle.aia_regs.specs.Top.{Pair, ComesFirst, NamesItself}
use Rattle.aia_regs.proofs.ListLemmas.{here, later, here_or_later, nowhere, pairs_tail}
use Rattle.aia_domain.specs.Order.{comes_before, is_pair, IsRising, put_in, taken_out, put_if, out_if, ordered}
use Rattle.aia_domain.proofs.OrderLemmas.{Before, is_before, before_is, not_before, not_before_is, first_before, before_first, before_comes_first, first_other, after_other, same_pair, put_length, put_all, put_rising}

-- ---- one pair more, and one less

-- what comes first of two that both stand ahead of the others
two_first : (p q : Pair) (t : List Pair) → cond (comes_before q p) (q ∷ p ∷ t) (p ∷ q ∷ t) ≡ cond (comes_before p q) (p ∷ q ∷ t) (q ∷ p ∷ t)
two_first p q t = at (comes_before q p) (comes_before p q) refl refl
  where
    same : ComesFirst p q → ComesFirst q p → p ≡ q
    same (inl a) (inl b) = absurd (omega arith)
    same (inl a) (inr b) = absurd (omega (arith, b.0))
    same (inr a) (inl b) = absurd (omega (arith, a.0))
    same (inr a) (inr b) = let second : p.1 ≡ q.1 = omega (arith, a.1, b.1) in ap (λ x. (x, p.1)) a.0 ∙ ap (λ y. (q.0, y)) second

    at : (x y : Bool) → comes_before q p ≡ x → comes_before p q ≡ y → cond x (q ∷ p ∷ t) (p ∷ q ∷ t) ≡ cond y (p ∷ q ∷ t) (q ∷ p ∷ t)
    at true true a b = absurd (let bad : ◌≡◌ {A = Bool} true false = sym b ∙ not_before_is p q (before_comes_first q p (is_before q p a)) in cc)
    at true false a b = refl
    at false true a b = refl
    at false false a b = let e = same (not_before q p a) (not_before p q b) in ap (λ x. x ∷ q ∷ t) e ∙ ap (λ x. q ∷ x ∷ t) (sym e)

pub put_twice : (p q : Pair) (xs : List Pair) → put_in p (put_in q xs) ≡ put_in q (put_in p xs)
put_twice p q [] = two_first p q []
put_twice p q (r ∷ rs) = at (comes_before r p) (comes_before r q) refl refl (put_twice p q rs)
  where
    at : (x y : Bool) → comes_before r p ≡ x → comes_before r q ≡ y → put_in p (put_in q rs) ≡ put_in q (put_in p rs)
        → put_in p (cond y (r ∷ put_in q rs) (q ∷ r ∷ rs)) ≡ put_in q (cond x (r ∷ put_in p rs) (p ∷ r ∷ rs))
    at true true a b rest = cond-true _ _ _ a ∙ ap (λ ys. r ∷ ys) rest ∙ sym (cond-true _ _ _ b)
    at true false a b rest =
        let first = before_is q p (first_before q r p (not_before r q b) (is_before r p a)) in
        cond-true _ _ _ first ∙ ap (λ ys. q ∷ ys) (cond-true _ _ _ a) ∙ sym (cond-false _ _ _ b)
    at false true a b rest =
        let first = before_is p q (first_before p r q (not_before r p a) (is_before r q b)) in
        cond-false _ _ _ a ∙ sym (cond-true _ _ _ first ∙ ap (λ ys. p ∷ ys) (cond-true _ _ _ b))
    at false false a b rest =
        ap (λ ys. cond (comes_before q p) (q ∷ ys) (p ∷ q ∷ r ∷ rs)) (cond-false _ _ _ a) ∙ two_first p q (r ∷ rs)
        ∙ sym (ap (λ ys. cond (comes_before p q) (p ∷ ys) (q ∷ p ∷ r ∷ rs)) (cond-false _ _ _ b))

pub put_and_out : (p : Pair) (xs : List Pair) → taken_out p (put_in p xs) ≡ xs
put_and_out p [] = cond-true _ _ _ (same_pair p)
put_and_out p (r ∷ rs) = at (comes_before r p) refl (put_and_out p rs)
  where
    at : (x : Bool) → comes_before r p ≡ x → taken_out p (put_in p rs) ≡ rs → taken_out p (cond x (r ∷ put_in p rs) (p ∷ r ∷ rs)) ≡ r ∷ rs
    at true a rest = cond-false _ _ _ (after_other p r (is_before r p a)) ∙ ap (λ ys. r ∷ ys) rest
    at false a rest = cond-true _ _ _ (same_pair p)

put_if_twice : (a b : Option Pair) (xs : List Pair) → put_if a (put_if b xs) ≡ put_if b (put_if a xs)
put_if_twice None b xs = refl
put_if_twice (Some p) None xs = refl
put_if_twice (Some p) (Some q) xs = put_twice p q xs

put_if_and_out : (a : Option Pair) (xs : List Pair) → out_if a (put_if a xs) ≡ xs
put_if_and_out None xs = refl
put_if_and_out (Some p) xs = put_and_out p xs

-- ---- the pairs of numbers

pub ordered-none : (c : ℕ → Option Pair) (from : ℕ) → ordered c from 0 ≡ []
unfolding ordered
ordered-none c from = refl

pub ordered-suc : (c : ℕ → Option Pair) (from count : ℕ) → ordered c from (suc count) ≡ put_if (c from) (ordered c (suc from) count)
unfolding ordered
ordered-suc c from count = refl

pub ordered_same : (c d : ℕ → Option Pair) (from count : ℕ) → ((s : ℕ) → from ≤ s → s < from + count → c s ≡ d s)
    → ordered c from count ≡ ordered d from count
ordered_same c d from zero same = ordered-none c from ∙ sym (ordered-none d from)
ordered_same c d from (suc count) same =
    ordered-suc c from count ∙ ap (λ o. put_if o (ordered c (suc from) count)) (same from (omega arith) (omega arith))
    ∙ ap (put_if (d from)) (ordered_same c d (suc from) count (λ s a b. same s (omega arith) (omega arith))) ∙ sym (ordered-suc d from count)

-- all but one number
abbrev pub except : ℕ → (ℕ → Option Pair) → ℕ → Option Pair
except s c i = cond (nat_eq s i) None (c i)

except_there : (s : ℕ) (c : ℕ → Option Pair) (i : ℕ) → s ≡ i → except s c i ≡ None
except_there s c i e = cond-true _ _ _ (eq-eqb s i e)

except_elsewhere : (s : ℕ) (c : ℕ → Option Pair) (i : ℕ) → (s ≡ i → ⊥) → except s c i ≡ c i
except_elsewhere s c i ne = cond-false _ _ _ (ne_eqb s i ne)

-- one of the numbers has its pair among those of the others
pub ordered_one : (c : ℕ → Option Pair) (s from count : ℕ) → from ≤ s → s < from + count
    → ordered c from count ≡ put_if (c s) (ordered (except s c) from count)
ordered_one c s from zero low high = absurd (omega arith)
ordered_one c s from (suc count) low high = ordered-suc c from count ∙ elim (cases_eq s from) [
  | inl e ↦
      let others : ordered (except s c) from (suc count) ≡ ordered c (suc from) count = ordered-suc (except s c) from count
      ∙ ap (λ o. put_if o (ordered (except s c) (suc from) count)) (except_there s c from e)
      ∙ ordered_same (except s c) c (suc from) count (λ i a b. except_elsewhere s c i (λ f. omega (arith, e, f, a))) in
      sym (ap (put_if (c s)) others ∙ ap (λ i. put_if (c i) (ordered c (suc from) count)) e)
  | inr ne ↦
      ap (put_if (c from)) (ordered_one c s (suc from) count (omega arith) (omega arith))
      ∙ put_if_twice (c from) (c s) (ordered (except s c) (suc from) count)
      ∙ ap (put_if (c s)) (ap (λ o. put_if o (ordered (except s c) (suc from) count)) (sym (except_elsewhere s c from ne))
      ∙ sym (ordered-suc (except s c) from count))
]

put_if_length : (o : Option Pair) (xs : List Pair) (n : ℕ) → length xs ≤ n → length (put_if o xs) ≤ suc n
put_if_length None xs n few = omega arith
put_if_length (Some p) xs n few = omega (arith, put_length p xs)

pub ordered_length : (c : ℕ → Option Pair) (from count : ℕ) → length (ordered c from count) ≤ count
ordered_length c from zero = omega (arith, ap length (ordered-none c from))
ordered_length c from (suc count) = let few = put_if_length (c from) (ordered c (suc from) count) count (ordered_length c (suc from) count) in
    subst (λ n. n ≤ suc count) (sym (ap length (ordered-suc c from count))) few

pub ordered_rising : (c : ℕ → Option Pair) (from count : ℕ) → IsRising (ordered c from count)
ordered_rising c from zero = subst IsRising (sym (ordered-none c from)) (λ i j d low within. absurd (omega arith))
ordered_rising c from (suc count) = subst IsRising (sym (ordered-suc c from count))
    (put_if_rising (c from) (ordered c (suc from) count) (ordered_rising c (suc from) count))
  where
    put_if_rising : (o : Option Pair) (xs : List Pair) → IsRising xs → IsRising (put_if o xs)
    put_if_rising None xs rising = rising
    put_if_rising (Some p) xs rising = put_rising p xs rising

-- where one number changes, its old pair is taken out and its new one put in
pub ordered_changed : (c d : ℕ → Option Pair) (s from count : ℕ) → from ≤ s → s < from + count → ((i : ℕ) → (s ≡ i → ⊥) → c i ≡ d i)
    → put_if (d s) (out_if (c s) (ordered c from count)) ≡ ordered d from count
ordered_changed c d s from count low high same =
    ap (λ xs. put_if (d s) (out_if (c s) xs)) (ordered_one c s from count low high)
    ∙ ap (put_if (d s)) (put_if_and_out (c s) (ordered (except s c) from count)) ∙ ap (put_if (d s)) others
    ∙ sym (ordered_one d s from count low high)
  where
    others : ordered (except s c) from count ≡ ordered (except s d) from count
    others = ordered_same (except s c) (except s d) from count (λ i a b. elim (cases_eq s i) [
      | inl e ↦ except_there s c i e ∙ sym (except_there s d i e)
      | inr ne ↦ except_elsewhere s c i ne ∙ same i ne ∙ sym (except_elsewhere s d i ne)
    ])

-- and there is room for it
pub ordered_room : (c d : ℕ → Option Pair) (p : Pair) (s from count : ℕ) → from ≤ s → s < from + count → ((i : ℕ) → (s ≡ i → ⊥) → c i ≡ d i)
    → d s ≡ Some p → length (out_if (c s) (ordered c from count)) < count
ordered_room c d p s from count low high same is =
    let all = ordered_length d from count in
    let e = ap length (sym (ordered_changed c d s from count low high same) ∙ ap (λ o. put_if o (out_if (c s) (ordered c from count))) is) in
    let more = put_length p (out_if (c s) (ordered c from count)) in omega (arith, all, e, more)

-- what holds of the pair of each number holds of all of them
pub ordered_all : (P : Pair → Type 0) (c : ℕ → Option Pair) (from count : ℕ)
    → ((s : ℕ) (p : Pair) → from ≤ s → s < from + count → c s ≡ Some p → P p) → All P (ordered c from count)
ordered_all P c from zero each = subst (All P) (sym (ordered-none c from)) (λ k d low. absurd (omega arith))
ordered_all P c from (suc count) each = subst (All P) (sym (ordered-suc c from count))
    (at (c from) refl (ordered_all P c (suc from) count (λ s p a b. each s p (omega arith) (omega arith))))
  where
    at : (o : Option Pair) → c from ≡ o → All P (ordered c (suc from) count) → All P (put_if o (ordered c (suc from) count))
    at None e rest = rest
    at (Some p) e rest = put_all P p (ordered c (suc from) count) (each from p (omega arith) (omega arith) e) rest

-- ---- the list as a set

pub in_put : (p q : Pair) (xs : List Pair) → Contains (put_in p xs) q → (p ≡ q) ⊎ Contains xs q
in_put p q [] m = here_or_later p q [] m
in_put p q (r ∷ rs) m = at (comes_before r p) m (in_put p q rs)
  where
    later_too : (p ≡ q) ⊎ Contains rs q → (p ≡ q) ⊎ Contains (r ∷ rs) q
    later_too (inl e) = inl e
    later_too (inr n) = inr (later r q rs n)

    first : (r ≡ q) ⊎ Contains (put_in p rs) q → (Contains (put_in p rs) q → (p ≡ q) ⊎ Contains rs q) → (p ≡ q) ⊎ Contains (r ∷ rs) q
    first (inl e) next = inr (subst (Contains (r ∷ rs)) e (here r rs))
    first (inr n) next = later_too (next n)

    at : (b : Bool) → Contains (cond b (r ∷ put_in p rs) (p ∷ r ∷ rs)) q → (Contains (put_in p rs) q → (p ≡ q) ⊎ Contains rs q) → (p ≡ q)
        ⊎ Contains (r ∷ rs) q
    at true n next = first (here_or_later r q (put_in p rs) n) next
    at false n next = here_or_later p q (r ∷ rs) n

pub put_here : (p : Pair) (xs : List Pair) → Contains (put_in p xs) p
put_here p [] = here p []
put_here p (r ∷ rs) = at (comes_before r p) (put_here p rs)
  where
    at : (b : Bool) → Contains (put_in p rs) p → Contains (cond b (r ∷ put_in p rs) (p ∷ r ∷ rs)) p
    at true next = later r p (put_in p rs) next
    at false next = here p (r ∷ rs)

pub put_keeps : (p q : Pair) (xs : List Pair) → Contains xs q → Contains (put_in p xs) q
put_keeps p q [] m = nowhere q m
put_keeps p q (r ∷ rs) m = at (comes_before r p) (here_or_later r q rs m) (put_keeps p q rs)
  where
    at : (b : Bool) → (r ≡ q) ⊎ Contains rs q → (Contains rs q → Contains (put_in p rs) q) → Contains (cond b (r ∷ put_in p rs) (p ∷ r ∷ rs)) q
    at true (inl e) next = subst (Contains (r ∷ put_in p rs)) e (here r (put_in p rs))
    at true (inr n) next = later r q (put_in p rs) (next n)
    at false (inl e) next = later p q (r ∷ rs) (subst (Contains (r ∷ rs)) e (here r rs))
    at false (inr n) next = later p q (r ∷ rs) (later r q rs n)

-- a pair of the list is that of one of the numbers, and the other way round
pub ordered_from : (c : ℕ → Option Pair) (from count : ℕ) (q : Pair) → Contains (ordered c from count) q → (s : ℕ) × (from ≤ s)
    × (s < from + count) × (c s ≡ Some q)
ordered_from c from zero q m = nowhere q (subst (λ xs. Contains xs q) (ordered-none c from) m)
ordered_from c from (suc count) q m = at (c from) refl (subst (λ xs. Contains xs q) (ordered-suc c from count) m) (ordered_from c (suc from) count q)
  where
    farther : (s : ℕ) × (suc from ≤ s) × (s < suc from + count) × (c s ≡ Some q) → (s : ℕ) × (from ≤ s) × (s < from + suc count) × (c s ≡ Some q)
    farther f = (f.0, omega (arith, f.1), omega (arith, f.2), f.3)

    either : (p : Pair) → c from ≡ Some p → (p ≡ q) ⊎ Contains (ordered c (suc from) count) q
        → (Contains (ordered c (suc from) count) q → (s : ℕ) × (suc from ≤ s) × (s < suc from + count) × (c s ≡ Some q)) → (s : ℕ) × (from ≤ s)
        × (s < from + suc count) × (c s ≡ Some q)
    either p e (inl same) next = (from, omega arith, omega arith, e ∙ ap Some same)
    either p e (inr n) next = farther (next n)

    at : (o : Option Pair) → c from ≡ o → Contains (put_if o (ordered c (suc from) count)) q
        → (Contains (ordered c (suc from) count) q → (s : ℕ) × (suc from ≤ s) × (s < suc from + count) × (c s ≡ Some q)) → (s : ℕ) × (from ≤ s)
        × (s < from + suc count) × (c s ≡ Some q)
    at None e n next = farther (next n)
    at (Some p) e n next = either p e (in_put p q (ordered c (suc from) count) n) next

pub ordered_has : (c : ℕ → Option Pair) (from count s : ℕ) (q : Pair) → from ≤ s → s < from + count → c s ≡ Some q → Contains (ordered c from count) q
ordered_has c from count s q low high is =
    subst (λ xs. Contains xs q) (sym (ordered_one c s from count low high ∙ ap (λ o. put_if o (ordered (except s c) from count)) is))
    (put_here q (ordered (except s c) from count))

-- ---- each pair comes before all that follow it, where each has its own number

put_strict : (p : Pair) (xs : List Pair) → All (λ q. is_pair p q ≡ false) xs → AllPairs (λ p q. comes_before p q ≡ true) xs
    → AllPairs (λ p q. comes_before p q ≡ true) (put_in p xs)
put_strict p [] others rising = λ i j d low within. absurd (omega arith)
put_strict p (q ∷ qs) others rising = at (comes_before q p) refl
    (put_strict p qs (λ k d low. others (suc k) d (omega arith)) (pairs_tail (λ p q. comes_before p q ≡ true) q qs rising))
  where
    tail : All (λ r. comes_before q r ≡ true) qs
    tail k d low = rising 0 (suc k) d (omega arith) (omega arith)

    after : Before p q → All (λ r. comes_before p r ≡ true) qs
    after first k d low = before_is p (get_or qs k d)
        (before_first p q (get_or qs k d) first (before_comes_first q (get_or qs k d) (is_before q (get_or qs k d) (tail k d low))))

    at : (b : Bool) → comes_before q p ≡ b → AllPairs (λ p q. comes_before p q ≡ true) (put_in p qs)
        → AllPairs (λ p q. comes_before p q ≡ true) (cond b (q ∷ put_in p qs) (p ∷ q ∷ qs))
    at true is rest = AllPairs-cons (λ p q. comes_before p q ≡ true) q (put_in p qs) (put_all (λ r. comes_before q r ≡ true) p qs is tail) rest
    at false is rest =
        let first = first_other p q (not_before q p is) (others 0 q (omega arith)) in
        AllPairs-cons (λ p q. comes_before p q ≡ true) p (q ∷ qs)
        (All-cons (λ r. comes_before p r ≡ true) q qs (before_is p q first) (after first)) rising

pub ordered_strict : (c : ℕ → Option Pair) (from count : ℕ) → NamesItself c → AllPairs (λ p q. comes_before p q ≡ true) (ordered c from count)
ordered_strict c from zero own = subst (AllPairs (λ p q. comes_before p q ≡ true)) (sym (ordered-none c from))
    (λ i j d low within. absurd (omega arith))
ordered_strict c from (suc count) own = subst (AllPairs (λ p q. comes_before p q ≡ true)) (sym (ordered-suc c from count))
    (at (c from) refl (ordered_strict c (suc from) count own))
  where
    other : (p : Pair) → c from ≡ Some p → All (λ q. is_pair p q ≡ false) (ordered c (suc from) count)
    other p e = ordered_all (λ q. is_pair p q ≡ false) c (suc from) count
        (λ s q a b is. and_right (nat_eq p.0 q.0) (nat_eq p.1 q.1) (ne_eqb p.1 q.1 (λ same. omega (arith, same, own from p e, own s q is, a))))

    at : (o : Option Pair) → c from ≡ o → AllPairs (λ p q. comes_before p q ≡ true) (ordered c (suc from) count)
        → AllPairs (λ p q. comes_before p q ≡ true) (put_if o (ordered c (suc from) count))
    at None e rest = rest
    at (Some p) e rest = put_strict p (ordered c (suc from) count) (other p e) rest
