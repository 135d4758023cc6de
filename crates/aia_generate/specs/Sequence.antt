-- The numbers that draw the lines of a generated script. Profile.
use Rattle.std.specs.Prelude.{ℕ, zero, suc, ◌-◌, length}
use Rattle.aia_generate.specs.Generated.{next_number, head_lines}

-- The number so many places after one in the sequence.
abbrev pub later_number : ℕ → ℕ → ℕ
later_number zero x = x
later_number (suc places) x = later_number places (next_number x)

-- The number that draws line k, counted from 1: the first line after the head is drawn by the
-- number after the seed. Lines of the head are drawn by none.
abbrev pub drawing_number : ℕ → ℕ → ℕ
drawing_number seed k = later_number (k - length head_lines) seed
