-- Pairs that are kept in falling order: where one stands, with one more, and without one.
use Rattle.std.proofs.Common.{◌≡◌, ℕ, zero, suc, ◌-◌, ◌<◌, ◌≤◌, true, false, not, List, [], ◌∷◌, ◌++◌, length, take, drop, get_or, slice_get, reverse, Option, Some, None, refl, sym, ap, subst, ◌∙◌, append_assoc, inl, inr, arith}
use Rattle.std.specs.Option.{option_to_list, IsSome}
use Rattle.std.specs.List.{insert, remove}
use Rattle.std.specs.List.Sorted.{IsPartitionPoint, IsPartitionedBy}
use Rattle.std.proofs.lemmas.Bool.{cases_lt, not-true, not-false}
use Rattle.std.proofs.lemmas.List.{reverse-append, length-reverse, get_or-reverse, take-append-drop}
use Rattle.std.proofs.lemmas.Grind.{reverse_onto}
use Rattle.std.proofs.lemmas.List.Quantifiers.{all_pairs_remove}
use Rattle.std.proofs.Math.Seq.{drop-cons}
use Rattle.std.proofs.lemmas.Option.{slice_get-get_or, slice_get_past}
use Rattle.aia_regs.specs.Top.{Pair}
use Rattle.aia_domain.specs.Order.{comes_before, is_pair, IsRising, put_in, taken_out}
use Rattle.aia_domain.proofs.OrderLemmas.{not_before, not_before_is, first_first, put_at, out_there, out_nowhere}

-- a falling list is cut in two by the pairs that come before one
pub falling_parted : (p : Pair) (xs : List Pair) → IsRising (reverse xs) → IsPartitionedBy (λ q. not (comes_before q p)) xs
falling_parted p xs rising i j d low within is = elim (cases_lt i j) [
  | inl less ↦
      let n = length-reverse xs in
      let at_j : get_or (reverse xs) (length xs - 1 - j) d ≡ get_or xs j d = get_or-reverse xs (length xs - 1 - j) d (omega arith)
      ∙ ap (λ k. get_or xs k d) (omega arith) in
      let at_i : get_or (reverse xs) (length xs - 1 - i) d ≡ get_or xs i d = get_or-reverse xs (length xs - 1 - i) d (omega arith)
      ∙ ap (λ k. get_or xs k d) (omega arith) in
      let after : comes_before (get_or xs i d) (get_or xs j d) ≡ false = ap (λ a. comes_before a (get_or xs j d)) (sym at_i)
      ∙ ap (comes_before (get_or (reverse xs) (length xs - 1 - i) d)) (sym at_j)
      ∙ rising (length xs - 1 - j) (length xs - 1 - i) d (omega arith) (omega (arith, n)) in
      ap not (not_before_is (get_or xs i d) p (first_first p (get_or xs j d) (get_or xs i d) (not_before (get_or xs j d) p (not-true _ is))
      (not_before (get_or xs i d) (get_or xs j d) after)))
  | inr more ↦ let e : j ≡ i = omega arith in subst (λ k. not (comes_before (get_or xs k d) p) ≡ true) e is
]

pub unflipped_point : (p : Pair) (xs : List Pair) (i : ℕ)
    → IsPartitionPoint (λ q. not (comes_before q p) ≡ true) (λ q. not (comes_before q p) ≡ false) xs i
    → IsPartitionPoint (λ q. comes_before q p ≡ false) (λ q. comes_before q p ≡ true) xs i
unflipped_point p xs i point = (λ k d low high. not-true _ (point.0 k d low high), λ k d low high. not-false _ (point.1 k d low high))

-- the same place, counted from the end
point_reversed : (p : Pair) (xs : List Pair) (i : ℕ) → i ≤ length xs
    → IsPartitionPoint (λ q. comes_before q p ≡ false) (λ q. comes_before q p ≡ true) xs i
    → IsPartitionPoint (λ q. comes_before q p ≡ true) (λ q. comes_before q p ≡ false) (reverse xs) (length xs - i)
point_reversed p xs i within point = (
  λ k d low high. ap (λ q. comes_before q p) (get_or-reverse xs k d (omega arith)) ∙ point.1 (length xs - 1 - k) d (omega arith) (omega arith),
  λ k d low high.
      let inside : k < length xs = omega (arith, length-reverse xs) in
      ap (λ q. comes_before q p) (get_or-reverse xs k d inside) ∙ point.0 (length xs - 1 - k) d (omega arith) (omega arith),
)

insert_middle : (front back : List Pair) (p : Pair) → insert (front ++ back) (length front) p ≡ front ++ p ∷ back
insert_middle [] back p = refl
insert_middle (x ∷ front) back p = ap (λ ys. x ∷ ys) (insert_middle front back p)

remove_middle : (front back : List Pair) (p : Pair) → remove (front ++ p ∷ back) (length front) ≡ front ++ back
remove_middle [] back p = refl
remove_middle (x ∷ front) back p = ap (λ ys. x ∷ ys) (remove_middle front back p)

reverse_drop_length : (xs : List Pair) (i : ℕ) → i ≤ length xs → length (reverse (drop i xs)) ≡ length xs - i
reverse_drop_length xs i within = length-reverse (drop i xs) ∙ dropped xs i within
  where
    dropped : (xs : List Pair) (i : ℕ) → i ≤ length xs → length (drop i xs) ≡ length xs - i
    dropped xs zero within = omega arith
    dropped [] (suc i) within = absurd (omega arith)
    dropped (x ∷ xs) (suc i) within = dropped xs i (omega arith) ∙ omega arith

reverse_cons : (x : Pair) (xs : List Pair) → reverse (x ∷ xs) ≡ reverse xs ++ x ∷ []
reverse_cons x xs = reverse_onto xs x []

pub put_falling : (p : Pair) (xs : List Pair) (i : ℕ) → i ≤ length xs
    → IsPartitionPoint (λ q. comes_before q p ≡ false) (λ q. comes_before q p ≡ true) xs i → reverse (insert xs i p) ≡ put_in p (reverse xs)
put_falling p xs i within point =
    let front = reverse (drop i xs) in
    let back = reverse (take i xs) in
    let whole : reverse xs ≡ front ++ back = ap reverse (sym (take-append-drop i xs)) ∙ reverse-append (take i xs) (drop i xs) in
    reverse-append (take i xs) (p ∷ drop i xs) ∙ ap (λ ys. ys ++ back) (reverse_cons p (drop i xs)) ∙ append_assoc front (p ∷ []) back
    ∙ sym (insert_middle front back p) ∙ ap (λ ys. insert ys (length front) p) (sym whole)
    ∙ ap (λ n. insert (reverse xs) n p) (reverse_drop_length xs i within)
    ∙ put_at p (reverse xs) (length xs - i) (omega (arith, length-reverse xs)) (point_reversed p xs i within point)

remove_falling : (xs : List Pair) (j : ℕ) (d : Pair) → j < length xs → reverse (remove xs j) ≡ remove (reverse xs) (length xs - suc j)
remove_falling xs j d within =
    let front = reverse (drop (suc j) xs) in
    let back = reverse (take j xs) in
    let x = get_or xs j d in
    let whole : reverse xs ≡ front ++ x ∷ back = ap reverse (sym (take-append-drop j xs)) ∙ reverse-append (take j xs) (drop j xs)
    ∙ ap (λ ys. reverse ys ++ back) (drop-cons xs j d within) ∙ ap (λ ys. ys ++ back) (reverse_cons x (drop (suc j) xs))
    ∙ append_assoc front (x ∷ []) back in
    reverse-append (take j xs) (drop (suc j) xs) ∙ sym (remove_middle front back x) ∙ ap (λ ys. remove ys (length front)) (sym whole)
    ∙ ap (remove (reverse xs)) (reverse_drop_length xs (suc j) (omega arith))

pub removed_rises : (xs : List Pair) (j : ℕ) (d : Pair) → IsRising (reverse xs) → j < length xs → IsRising (reverse (remove xs j))
removed_rises xs j d rising within =
    subst IsRising (sym (remove_falling xs j d within))
    (all_pairs_remove (λ p q. comes_before q p ≡ false) (reverse xs) (length xs - suc j) (omega (arith, length-reverse xs)) rising)

pub out_falling : (p : Pair) (xs : List Pair) (i : ℕ) (d : Pair) → IsRising (reverse xs) → 0 < i → i ≤ length xs
    → IsPartitionPoint (λ q. comes_before q p ≡ false) (λ q. comes_before q p ≡ true) xs i → is_pair p (get_or xs (i - 1) d) ≡ true
    → reverse (remove xs (i - 1)) ≡ taken_out p (reverse xs)
out_falling p xs i d rising some within point is =
    let n : length xs - suc (i - 1) ≡ length xs - i = omega arith in
    let at : get_or (reverse xs) (length xs - i) d ≡ get_or xs (i - 1) d = get_or-reverse xs (length xs - i) d (omega arith)
    ∙ ap (λ k. get_or xs k d) (omega arith) in
    remove_falling xs (i - 1) d (omega arith) ∙ ap (remove (reverse xs)) n
    ∙ out_there p (reverse xs) (length xs - i) d rising (omega (arith, length-reverse xs)) (point_reversed p xs i within point)
    (ap (is_pair p) at ∙ is)

pub out_of_falling : (p : Pair) (xs : List Pair) (i : ℕ) → IsRising (reverse xs) → i ≤ length xs
    → IsPartitionPoint (λ q. comes_before q p ≡ false) (λ q. comes_before q p ≡ true) xs i
    → (0 < i → (d : Pair) × (is_pair p (get_or xs (i - 1) d) ≡ false)) → reverse xs ≡ taken_out p (reverse xs)
out_of_falling p xs i rising within point other =
    out_nowhere p (reverse xs) (length xs - i) rising (omega (arith, length-reverse xs)) (point_reversed p xs i within point) (λ low.
    let some : 0 < i = omega (arith, length-reverse xs, low) in
    let it = other some in
    let at : get_or (reverse xs) (length xs - i) it.0 ≡ get_or xs (i - 1) it.0 = get_or-reverse xs (length xs - i) it.0 (omega arith)
    ∙ ap (λ k. get_or xs k it.0) (omega arith) in
    (it.0, ap (is_pair p) at ∙ it.1))

-- the pair at a place, counted from the end
pub falling_at : (xs : List Pair) (place : ℕ) (x : Pair) → place < length xs → x ≡ get_or xs (length xs - 1 - place) x
    → Some x ≡ slice_get (reverse xs) place
falling_at xs place x within is = ap Some (is ∙ sym (get_or-reverse xs place x within))
    ∙ sym (slice_get-get_or (reverse xs) place x (omega (arith, length-reverse xs)))

pub falling_past : (xs : List Pair) (place : ℕ) → length xs ≤ place → None ≡ slice_get (reverse xs) place
falling_past xs place past = sym (slice_get_past (reverse xs) place (omega (arith, length-reverse xs)))

-- the first pair stands at the end
pub pushed_first : (p : Pair) (xs : List Pair) → reverse (xs ++ p ∷ []) ≡ p ∷ reverse xs
pushed_first p xs = reverse-append xs (p ∷ [])

pub popped_first : (xs rest : List Pair) (last : Option Pair) → xs ≡ rest ++ option_to_list last → (0 < length xs → IsSome last)
    → reverse rest ≡ drop 1 (reverse xs)
popped_first [] [] None is some = refl
popped_first [] (x ∷ rest) None is some = absurd cc
popped_first (x ∷ xs) rest None is some = absurd (let it = some (omega arith) in cc)
popped_first xs rest (Some p) is some = sym (ap (λ ys. drop 1 (reverse ys)) is ∙ ap (drop 1) (pushed_first p rest))
