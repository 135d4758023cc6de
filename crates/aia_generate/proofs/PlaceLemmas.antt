-- An element of lists that follow one another, by its place.
use Rattle.std.proofs.Common.{◌≡◌, ℕ, zero, suc, ◌-◌, ◌<◌, ◌≤◌, List, [], ◌∷◌, ◌++◌, length, slice_get, refl, ap, ◌∙◌, arith}

pub in_first : {A : Type 0} (xs ys : List A) (k : ℕ) → k < length xs → slice_get (xs ++ ys) k ≡ slice_get xs k
in_first [] ys k within = absurd (omega arith)
in_first (x ∷ xs) ys zero within = refl
in_first (x ∷ xs) ys (suc k) within = in_first xs ys k (omega arith)

pub in_second : {A : Type 0} (xs ys : List A) (k : ℕ) → length xs ≤ k → slice_get (xs ++ ys) k ≡ slice_get ys (k - length xs)
in_second [] ys k past = let e : k ≡ k - 0 = omega arith in ap (slice_get ys) e
in_second (x ∷ xs) ys zero past = absurd (omega arith)
in_second (x ∷ xs) ys (suc k) past = let e : k - length xs ≡ suc k - suc (length xs) = omega arith in in_second xs ys k (omega arith)
    ∙ ap (slice_get ys) e

pub between : {A : Type 0} (before here later : List A) (k : ℕ) → length before ≤ k → k - length before < length here
    → slice_get (before ++ (here ++ later)) k ≡ slice_get here (k - length before)
between before here later k past within = in_second before (here ++ later) k past ∙ in_first here later (k - length before) within
