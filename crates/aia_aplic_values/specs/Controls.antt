-- What a write makes of the delivery controls of harts.
-- AIA 1.0, APLIC, "Interrupt delivery directly by the APLIC".
use Rattle.std.specs.Prelude.{ℕ, Bool, true, false, nat_eq, if◌then◌else◌, List, get_or, Option, Some, None}
use Rattle.aia_regs.specs.declared.domain_registers.DomainReg.{DomainReg}
use Rattle.aia_regs.specs.declared.domain_registers.DomainReg.TheVariants.{IDelivery, IForce, IThreshold, TopI, ClaimI}
use Rattle.aia_domain.specs.InterruptSource.{EachAt}
use Rattle.aia_domain.specs.Domain.{DomainState}
use Rattle.aia_direct.specs.Idc.{IdcState, new_idc, control_written, control_claimed, top_shown}

-- Each control of a list is changed by its hart.
abbrev pub EachControl : List IdcState → List IdcState → (ℕ → IdcState → IdcState) → Type 0
EachControl old new change = EachAt old new change

-- Whether a register is one of a hart's control.
abbrev pub is_control : DomainReg → Bool
is_control (IDelivery hart) = true
is_control (IForce hart) = true
is_control (IThreshold hart) = true
is_control (TopI hart) = true
is_control (ClaimI hart) = true
is_control reg = false

-- Whether a write of it changes what this hart has: only of its idelivery, iforce or ithreshold.
abbrev pub changes_control_of : DomainReg → ℕ → Bool
changes_control_of (IDelivery x) hart = nat_eq x hart
changes_control_of (IForce x) hart = nat_eq x hart
changes_control_of (IThreshold x) hart = nat_eq x hart
changes_control_of reg hart = false

-- A register is written.
abbrev pub control_after : DomainReg → ℕ → ℕ → IdcState → IdcState
control_after reg v hart c = if changes_control_of reg hart then control_written reg v c else c

-- The control of a hart that is there.
abbrev pub control_at : List IdcState → ℕ → IdcState
control_at controls hart = get_or controls hart new_idc

-- A hart claims.
abbrev pub claimed_at : DomainState → ℕ → ℕ → IdcState → IdcState
claimed_at d hart h c = if nat_eq hart h then control_claimed d.msi (top_shown c d hart) c else c

-- The hart of idelivery, iforce or ithreshold.
abbrev pub hart_of_register : DomainReg → Option ℕ
hart_of_register (IDelivery hart) = Some hart
hart_of_register (IForce hart) = Some hart
hart_of_register (IThreshold hart) = Some hart
hart_of_register reg = None
