-- The identity that a store to a file's page asks for.
-- AIA 1.0, IMSIC, "Memory region for an interrupt file".
use Rattle.std.specs.Prelude.{ℕ, nat_eq, if◌then◌else◌, Option, Some, None}
use Rattle.std.specs.Int.{swap_bytes, is_in_range, w32}
use Rattle.aia_regs.specs.BitUpdate.{BitUpdate, names}
use Rattle.aia_regs.specs.BitUpdate.BitUpdate.{Ask, Nothing}

-- The number that a 32-bit store writes to seteipnum_le, at offset 0, or to seteipnum_be, at offset
-- 4; None at every other offset.
abbrev pub number_written : ℕ → ℕ → Option ℕ
number_written offset value =
    if nat_eq offset 0 then Some value
    else (if nat_eq offset 4 then Some (swap_bytes w32 value)
    else None)

-- A number, where it is an identity from 1 to n.
-- AIA 1.0, IMSIC, "Interrupt files and interrupt identities".
abbrev pub implemented : ℕ → Option ℕ → Option ℕ
implemented n None = None
implemented n (Some x) = if is_in_range 1 n x then Some x else None

-- The identity that a store names, of a file with the identities 1 to n; other values are
-- ignored.
abbrev pub requested : ℕ → ℕ → ℕ → Option ℕ
requested n offset value = implemented n (number_written offset value)

-- What a store says of identity i.
abbrev pub request_said : ℕ → ℕ → ℕ → ℕ → BitUpdate
request_said n offset value i = if names (requested n offset value) i then Ask else Nothing
