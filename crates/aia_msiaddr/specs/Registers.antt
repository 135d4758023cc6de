-- The registers of MSI addresses: what a write of each keeps, their lock, and what they read.
-- AIA 1.0, APLIC, "Memory-mapped control region for an interrupt domain".
use Rattle.std.specs.Prelude.{ℕ, Bool, bit_and, if◌then◌else◌, Option, Some, None}
use Rattle.aia_regs.specs.declared.domain_registers.DomainReg.{DomainReg}
use Rattle.aia_regs.specs.declared.domain_registers.DomainReg.TheVariants.{MMsiAddrCfg, MMsiAddrCfgH, SMsiAddrCfg, SMsiAddrCfgH}
use Rattle.aia_regs.specs.Operations.{has_bit}
use Rattle.aia_msiaddr.specs.declared.registers.TheConstants.{MMSIADDRCFGH, SMSIADDRCFGH, L}

-- What a write of mmsiaddrcfgh keeps: the lock L, HHXS, LHXS, HHXW, LHXW and the high half of the
-- base page number; of smsiaddrcfgh: LHXS and the high half of the base page number. mmsiaddrcfg
-- and smsiaddrcfg keep all 32 bits. Profile: each field is kept whole.
abbrev pub mmsiaddrcfgh_kept : ℕ → ℕ
mmsiaddrcfgh_kept v = bit_and v MMSIADDRCFGH

abbrev pub smsiaddrcfgh_kept : ℕ → ℕ
smsiaddrcfgh_kept v = bit_and v SMSIADDRCFGH

-- Whether an mmsiaddrcfgh locks all four registers: L. From then on no write changes them.
abbrev pub locks : ℕ → Bool
locks cfgh = has_bit cfgh L

-- ---- the four registers

pub record AddressRegisters : Type 0 where
  pub mmsiaddrcfg : ℕ
  pub mmsiaddrcfgh : ℕ
  pub smsiaddrcfg : ℕ
  pub smsiaddrcfgh : ℕ

-- As a machine begins. Profile: every register is 0.
abbrev pub new_addresses : AddressRegisters
new_addresses = record { mmsiaddrcfg = 0; mmsiaddrcfgh = 0; smsiaddrcfg = 0; smsiaddrcfgh = 0 }

-- Whether they are locked.
abbrev pub are_locked : AddressRegisters → Bool
are_locked a = locks a.mmsiaddrcfgh

-- A number is put into a register.
abbrev pub address_put : DomainReg → ℕ → AddressRegisters → AddressRegisters
address_put MMsiAddrCfg v a = record a { mmsiaddrcfg = v }
address_put MMsiAddrCfgH v a = record a { mmsiaddrcfgh = mmsiaddrcfgh_kept v }
address_put SMsiAddrCfg v a = record a { smsiaddrcfg = v }
address_put SMsiAddrCfgH v a = record a { smsiaddrcfgh = smsiaddrcfgh_kept v }
address_put reg v a = a

-- A register is written: a write counts where they are not locked before it; so the one that locks
-- them is the last that does.
abbrev pub address_written : DomainReg → ℕ → AddressRegisters → AddressRegisters
address_written reg v a = if are_locked a then a else address_put reg v a

-- What one of them reads; None for every other register.
abbrev pub address_read : AddressRegisters → DomainReg → Option ℕ
address_read a MMsiAddrCfg = Some a.mmsiaddrcfg
address_read a MMsiAddrCfgH = Some a.mmsiaddrcfgh
address_read a SMsiAddrCfg = Some a.smsiaddrcfg
address_read a SMsiAddrCfgH = Some a.smsiaddrcfgh
address_read a reg = None
