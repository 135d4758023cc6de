-- A field hi:lo of a register, and a register with another number in it. Vocabulary, as the
-- standard's tables number the bits of a register.
use Rattle.std.specs.Prelude.{ℕ, ◌+◌, ◌-◌, ◌*◌, ◌/◌, ◌%◌, ◌^◌, ◌<◌, ◌⊎◌, Bool, if◌then◌else◌}

-- The number that the bits from lo to hi of x make, lo as the lowest.
abbrev pub field : ℕ → ℕ → ℕ → ℕ
field x hi lo = x / 2 ^ lo % 2 ^ (hi - lo + 1)

-- The number x with v in its bits from lo to hi: what x has above the field, then v, then what x
-- has below it.
abbrev pub with_field : ℕ → ℕ → ℕ → ℕ → ℕ
with_field x hi lo v =
    (x / 2 ^ lo / 2 ^ (hi - lo + 1) * 2 ^ (hi - lo + 1) + v) * 2 ^ lo
    + x % 2 ^ lo

-- A bit, or the level of a wire, as a number.
abbrev pub bit_number : Bool → ℕ
bit_number bit = if bit then 1 else 0

-- A bit is outside the field: below lo or above hi.
abbrev pub IsOutside : ℕ → ℕ → ℕ → Type 0
IsOutside hi lo i = (i < lo) ⊎ (hi < i)
