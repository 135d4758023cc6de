-- CSR instructions by numbers: the instruction by its `funct3`, the CSR by its address.
-- RISC-V Privileged Architecture, CSR Listing; AIA 1.0, Control and Status Registers (CSRs) Added
-- to Harts.
use Rattle.std.specs.Prelude.{ℕ, nat_eq, if◌then◌else◌, Option, Some, None}
use Rattle.aia_regs.specs.declared.access.Op.{Op}
use Rattle.aia_regs.specs.declared.access.Op.TheVariants as ops
use Rattle.aia_regs.specs.declared.access.Level.{Level}
use Rattle.aia_regs.specs.declared.access.Level.TheVariants as levels
use Rattle.aia_regs.specs.declared.access.Csr.{Csr}
use Rattle.aia_regs.specs.declared.access.Csr.TheVariants.{Select, Reg, Topei, Topi, Sip, Sie}
use Rattle.aia_model.specs.declared.line.Line.{Line}
use Rattle.aia_model.specs.declared.line.Line.TheVariants.{MachineCsr, HostCsr, GuestCsr}

-- What an instruction does, by its `funct3`: 1 is `csrrw`, 2 `csrrs`, 3 `csrrc`; and 0 reads.
abbrev pub op_of : ℕ → ℕ → Option Op
op_of funct operand =
    if nat_eq funct 0 then Some ops.Read
    else (if nat_eq funct 1 then Some (ops.Write operand)
    else (if nat_eq funct 2 then Some (ops.Set operand)
    else (if nat_eq funct 3 then Some (ops.Clear operand) else None)))

-- The CSR of a hart at an address, and its level: `miselect` 0x350, `mireg` 0x351, `mtopei` 0x35c,
-- `siselect` 0x150, `sireg` 0x151, `stopei` 0x15c.
abbrev pub hart_csr : ℕ → Option (Level × Csr)
hart_csr csr =
    if nat_eq csr 848 then Some (levels.Machine, Select)
    else (if nat_eq csr 849 then Some (levels.Machine, Reg)
    else (if nat_eq csr 860 then Some (levels.Machine, Topei)
    else (if nat_eq csr 336 then Some (levels.Host, Select)
    else (if nat_eq csr 337 then Some (levels.Host, Reg)
    else (if nat_eq csr 348 then Some (levels.Host, Topei) else None)))))

-- The CSR of a virtual hart at an address: also `stopi` 0xdb0, `sip` 0x144, `sie` 0x104.
abbrev pub guest_csr : ℕ → Option Csr
guest_csr csr =
    if nat_eq csr 336 then Some Select
    else (if nat_eq csr 337 then Some Reg
    else (if nat_eq csr 348 then Some Topei
    else (if nat_eq csr 3504 then Some Topi
    else (if nat_eq csr 324 then Some Sip
    else (if nat_eq csr 260 then Some Sie else None)))))

-- The line of an instruction of a hart, where it is one of a CSR that it has.
abbrev pub hart_line : ℕ → Option (Level × Csr) → Option Op → Option Line
hart_line hart None op = None
hart_line hart (Some at) None = None
hart_line hart (Some (levels.Machine, csr)) (Some op) = Some (MachineCsr hart csr op)
hart_line hart (Some (level, csr)) (Some op) = Some (HostCsr hart csr op)

-- The line of an instruction of a hart, None where a number names none.
abbrev pub hart_access : ℕ → ℕ → ℕ → ℕ → Option Line
hart_access hart csr funct operand = hart_line hart (hart_csr csr) (op_of funct operand)

-- The line of an instruction of a virtual hart, where it is one of a CSR that it has.
abbrev pub guest_line : ℕ → ℕ → Option Csr → Option Op → Option Line
guest_line vm vcpu None op = None
guest_line vm vcpu (Some csr) None = None
guest_line vm vcpu (Some csr) (Some op) = Some (GuestCsr vm vcpu csr op)

-- The line of an instruction of a virtual hart.
abbrev pub guest_access : ℕ → ℕ → ℕ → ℕ → ℕ → Option Line
guest_access vm vcpu csr funct operand =
    guest_line vm vcpu (guest_csr csr) (op_of funct operand)
