-- What a CSR instruction writes, given what the register read before it.
-- RISC-V Unprivileged Architecture, Zicsr extension, at XLEN 64.
use Rattle.std.specs.Prelude.{ℕ, ◌^◌, ◌<◌, Bool, true, false, nat_eq, bit_and, bit_or, if◌then◌else◌}
use Rattle.std.specs.Int.{bit_at, bit_not, w64}
use Rattle.aia_regs.specs.declared.access.Op.{Op}
use Rattle.aia_regs.specs.declared.access.Op.TheVariants as ops
use Rattle.aia_regs.specs.BitUpdate.{BitUpdate}
use Rattle.aia_regs.specs.BitUpdate.BitUpdate.{Ask, Clear, Nothing}

-- Whether the instruction writes: `csrr` never does, the others always do, also where they change
-- no bit. Profile: `csrrs` and `csrrc` write whatever their operand is.
abbrev pub is_writing : Op → Bool
is_writing ops.Read = false
is_writing (ops.Write v) = true
is_writing (ops.Set v) = true
is_writing (ops.Clear v) = true

-- The number that it writes: the operand, the old value with the operand's ones set, or with them
-- cleared.
abbrev pub written : Op → ℕ → ℕ
written ops.Read old = old
written (ops.Write v) old = v
written (ops.Set v) old = bit_or old v
written (ops.Clear v) old = bit_and old (bit_not w64 v)

-- Whether bit b of a number is a one, b counted from 0 at the lowest. The same as has_bit of
-- aia_word, which this crate does not use. Vocabulary.
abbrev pub has_bit : ℕ → ℕ → Bool
has_bit v b = nat_eq (bit_at v b) 1

-- What the instruction says of bit b of the register; that this is the number written, bit by bit,
-- is a law of the file's crate.
abbrev pub bit_said : Op → ℕ → BitUpdate
bit_said ops.Read b = Nothing
bit_said (ops.Write v) b = if has_bit v b then Ask else Clear
bit_said (ops.Set v) b = if has_bit v b then Ask else Nothing
bit_said (ops.Clear v) b = if has_bit v b then Clear else Nothing

-- Whether the operand has 64 bits.
abbrev pub FitsOp : Op → Type 0
FitsOp ops.Read = Unit {0}
FitsOp (ops.Write v) = v < 2 ^ 64
FitsOp (ops.Set v) = v < 2 ^ 64
FitsOp (ops.Clear v) = v < 2 ^ 64
