-- What it is to be the first of some candidates.
use Rattle.std.specs.Prelude.{◌≡◌, ◌<◌, ◌≤◌, ◌⊎◌, List}
use Rattle.std.specs.List.{Contains}
use Rattle.aia_major.specs.VsMajor.{Candidate}

-- A candidate comes before another, or is it: its priority number is lower, or it has the same one
-- and its rank is not higher.
abbrev pub ComesFirst : Candidate → Candidate → Type 0
ComesFirst a b = (a.number < b.number) ⊎ ((a.number ≡ b.number) × (a.rank ≤ b.rank))

-- A candidate is the first of some: it is one of them, and comes before each of them.
pub record IsFirst (some : List Candidate) (c : Candidate) : Type 0 where
  pub is : Contains some c
  pub first : (b : Candidate) → Contains some b → ComesFirst c b
