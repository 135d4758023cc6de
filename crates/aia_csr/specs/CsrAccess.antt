-- The access table: what an access to a CSR reaches, or how it is refused.
use Rattle.std.specs.Prelude.{ℕ, Bool, true, false, T, if◌then◌else◌}
use Rattle.aia_regs.specs.declared.access.Csr.{Csr}
use Rattle.aia_regs.specs.declared.access.Csr.TheVariants as csrs
use Rattle.aia_regs.specs.declared.access.Op.{Op}
use Rattle.aia_regs.specs.declared.file_registers.FileReg.{FileReg}
use Rattle.aia_regs.specs.declared.file_registers.FileReg.TheVariants.{Odd, Outside}
use Rattle.aia_regs.specs.Operations.{is_writing}
use Rattle.aia_regs.specs.FileRegisters.{register_of, IsUsable}
use Rattle.aia_regs.specs.declared.access.Level.{Level}
use Rattle.aia_regs.specs.declared.access.Level.TheVariants as levels
use Rattle.aia_csr.specs.declared.csr_access.CsrAccess.{CsrAccess}
use Rattle.aia_csr.specs.declared.csr_access.CsrAccess.TheVariants as reaches

-- What an access to mireg or sireg reaches, by the register that the select number names. One that
-- doesn't exist is illegal, but at a guest it raises a virtual-instruction exception.
-- AIA 1.0, IMSIC, "Indirectly accessed interrupt-file registers". Profile: a number outside 0x70 to
-- 0xff is refused in the same way.
abbrev pub register_access : Level → FileReg → CsrAccess
register_access levels.Guest Odd = reaches.Virtual
register_access levels.Guest Outside = reaches.Virtual
register_access level Odd = reaches.Illegal
register_access level Outside = reaches.Illegal
register_access level reg = reaches.File reg

-- The table, by level, CSR and instruction, the select number, and hvictl's VTI.
-- AIA 1.0, IMSIC, and Interrupts for Virtual Machines (VS Level). A host's access to stopi, sip or
-- sie is not modelled: no text spells one, and the last row is only of these.
abbrev pub csr_access : Level → Csr → Op → ℕ → Bool → CsrAccess
csr_access level csrs.Select op select vti = reaches.Select
csr_access level csrs.Topei op select vti = reaches.Top
csr_access level csrs.Reg op select vti = register_access level (register_of select)
csr_access levels.Guest csrs.Topi op select vti =
    if is_writing op then reaches.Illegal else reaches.Topi
csr_access levels.Guest csrs.Sip op select vti = if vti then reaches.Virtual else reaches.Sip
csr_access levels.Guest csrs.Sie op select vti = if vti then reaches.Virtual else reaches.Sie
csr_access level csr op select vti = reaches.Illegal

-- Whether a CSR is one of an interrupt file: the select number, the register that it selects, or
-- the identity on top.
abbrev pub is_file_csr : Csr → Bool
is_file_csr csrs.Select = true
is_file_csr csrs.Reg = true
is_file_csr csrs.Topei = true
is_file_csr csr = false

-- That a CSR is one of those.
abbrev pub IsFileCsr : Csr → Type 0
IsFileCsr csr = T (is_file_csr csr)

-- The CSR is one that the table has at the level: a host has only those of its files.
abbrev pub IsInTable : Level → Csr → Type 0
IsInTable levels.Guest csr = Unit {0}
IsInTable level csr = IsFileCsr csr

-- A register of the file that is reached is one that a file serves.
abbrev pub ReachesUsable : CsrAccess → Type 0
ReachesUsable (reaches.File reg) = IsUsable reg
ReachesUsable access = Unit {0}
