-- The calls of a fake are numbered from 1, and it fails at those that it was given.
use Rattle.std.specs.Prelude.{ℕ, ◌+◌, ◌-◌, ◌^◌, min, List, Contains}

-- a count that is raised by one, up to the greatest u64, where it stays
abbrev pub one_more : ℕ → ℕ
one_more count = min (count + 1) (2 ^ 64 - 1)

-- after so many calls, the number of the next one is listed
abbrev pub FailsNext : List ℕ → ℕ → Type 0
FailsNext fails calls = Contains fails (one_more calls)
