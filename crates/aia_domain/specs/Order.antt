-- Pairs of a priority and a number, in rising order. Vocabulary.
use Rattle.std.specs.Prelude.{◌≡◌, ℕ, zero, suc, Bool, false, ◌&&◌, ◌||◌, nat_eq, nat_lt, if◌then◌else◌, List, [], ◌∷◌, AllPairs, Option, Some, None}
use Rattle.aia_regs.specs.Top.{Pair}

-- Whether a pair comes before another: by priority, then by number.
abbrev pub comes_before : Pair → Pair → Bool
comes_before p q = nat_lt p.0 q.0 || (nat_eq p.0 q.0 && nat_lt p.1 q.1)

-- Whether two pairs are the same.
abbrev pub is_pair : Pair → Pair → Bool
is_pair p q = nat_eq p.0 q.0 && nat_eq p.1 q.1

-- No pair comes before one that stands ahead of it.
abbrev pub IsRising : List Pair → Type 0
IsRising = AllPairs (λ p q. comes_before q p ≡ false)

-- Pairs with one more, which stands after those that come before it, and ahead of all others.
abbrev pub put_in : Pair → List Pair → List Pair
put_in p [] = p ∷ []
put_in p (q ∷ qs) = if comes_before q p then q ∷ put_in p qs else p ∷ q ∷ qs

-- Pairs without the first that is this one.
abbrev pub taken_out : Pair → List Pair → List Pair
taken_out p [] = []
taken_out p (q ∷ qs) = if is_pair p q then qs else q ∷ taken_out p qs

-- Pairs with one more, where there is one.
abbrev pub put_if : Option Pair → List Pair → List Pair
put_if None ps = ps
put_if (Some p) ps = put_in p ps

-- Pairs without one, where there is one.
abbrev pub out_if : Option Pair → List Pair → List Pair
out_if None ps = ps
out_if (Some p) ps = taken_out p ps

-- The pairs of the `count` numbers from `from` on that have one, in rising order.
unfoldable pub ordered : (ℕ → Option Pair) → ℕ → ℕ → List Pair
ordered candidate from zero = []
ordered candidate from (suc count) = put_if (candidate from) (ordered candidate (suc from) count)

-- What a list of candidates keeps: its pairs, and how many it has room for.
pub record CandidatesState : Type 0 where
  pub room : ℕ
  pub pairs : List Pair
