-- The registers of an APLIC interrupt domain, each at an offset of the domain's control region.
-- AIA 1.0, APLIC, "Memory-mapped control region for an interrupt domain"; rows and their indexes
-- are vocabulary.
use Rattle.std.specs.Prelude.{ℕ, ◌+◌, ◌-◌, ◌*◌, ◌/◌, ◌%◌, Bool, ◌&&◌, nat_eq, nat_le, if◌then◌else◌, List, [], ◌∷◌, Option, Some, None}
use Rattle.std.specs.Int.{is_in_range}
use Rattle.aia_regs.specs.declared.limits.TheConstants.{LAST_CONTROL}
use Rattle.aia_regs.specs.declared.domain_registers.DomainReg.{DomainReg}
use Rattle.aia_regs.specs.declared.domain_registers.DomainReg.TheVariants.{DomainCfg, SourceCfg, MMsiAddrCfg, MMsiAddrCfgH, SMsiAddrCfg, SMsiAddrCfgH, SetIp, SetIpNum, InClrIp, ClrIpNum, SetIe, SetIeNum, ClrIe, ClrIeNum, SetIpNumLe, SetIpNumBe, GenMsi, Target, IDelivery, IForce, IThreshold, TopI, ClaimI, Nothing}

-- ---- the table

-- A row of the table: the registers with the indexes from `first` to `last`, register i at `base +
-- stride * i`.
pub record Row : Type 0 where
  pub base : ℕ
  pub stride : ℕ
  pub first : ℕ
  pub last : ℕ
  pub register : ℕ → DomainReg

-- A row of registers with an index, from the offset that register 0 has or would have.
abbrev pub indexed : ℕ → ℕ → ℕ → ℕ → (ℕ → DomainReg) → Row
indexed base stride first last register = record {
  base = base;
  stride = stride;
  first = first;
  last = last;
  register = register;
}

-- A row of one register, which has no index.
abbrev pub single : ℕ → DomainReg → Row
single base register = indexed base 4 0 0 (λ i. register)

-- The control region's registers, by offset; at its end the interrupt delivery controls of
-- harts 0 to `LAST_CONTROL`, 32 bytes each. Profile: a region of 32 KiB.
abbrev pub table : List Row
table =
    single 0x0000 DomainCfg
    ∷ indexed 0x0000 4 1 1023 SourceCfg
    ∷ single 0x1bc0 MMsiAddrCfg
    ∷ single 0x1bc4 MMsiAddrCfgH
    ∷ single 0x1bc8 SMsiAddrCfg
    ∷ single 0x1bcc SMsiAddrCfgH
    ∷ indexed 0x1c00 4 0 31 SetIp
    ∷ single 0x1cdc SetIpNum
    ∷ indexed 0x1d00 4 0 31 InClrIp
    ∷ single 0x1ddc ClrIpNum
    ∷ indexed 0x1e00 4 0 31 SetIe
    ∷ single 0x1edc SetIeNum
    ∷ indexed 0x1f00 4 0 31 ClrIe
    ∷ single 0x1fdc ClrIeNum
    ∷ single 0x2000 SetIpNumLe
    ∷ single 0x2004 SetIpNumBe
    ∷ single 0x3000 GenMsi
    ∷ indexed 0x3000 4 1 1023 Target
    ∷ indexed 0x4000 32 0 LAST_CONTROL IDelivery
    ∷ indexed 0x4004 32 0 LAST_CONTROL IForce
    ∷ indexed 0x4008 32 0 LAST_CONTROL IThreshold
    ∷ indexed 0x4018 32 0 LAST_CONTROL TopI
    ∷ indexed 0x401c 32 0 LAST_CONTROL ClaimI
    ∷ []

-- ---- from an offset to its register

-- The index that an offset would have in a row.
abbrev pub index_at : Row → ℕ → ℕ
index_at row offset = (offset - row.base) / row.stride

-- Whether one of the row's registers is at the offset.
abbrev pub has_offset : Row → ℕ → Bool
has_offset row offset =
    nat_le row.base offset
    && nat_eq ((offset - row.base) % row.stride) 0
    && is_in_range row.first row.last (index_at row offset)

-- The register at an offset by some rows, that of the first row which has it; Nothing where none
-- has it.
abbrev pub register_by : List Row → ℕ → DomainReg
register_by [] offset = Nothing
register_by (row ∷ rows) offset =
    if has_offset row offset then row.register (index_at row offset)
    else register_by rows offset

-- The register at an offset of a domain's control region.
unfoldable pub domain_register_of : ℕ → DomainReg
domain_register_of offset = register_by table offset

-- ---- from a register to its offset

-- The offset of register i of those from `first` to `last`; None for another i.
abbrev pub offset_of_index : ℕ → ℕ → ℕ → ℕ → ℕ → Option ℕ
offset_of_index base stride first last i =
    if is_in_range first last i then Some (base + stride * i) else None

-- The offset of a register; None for Nothing and for an index that no register has.
abbrev pub domain_offset_of : DomainReg → Option ℕ
domain_offset_of DomainCfg = Some 0x0000
domain_offset_of (SourceCfg i) = offset_of_index 0x0000 4 1 1023 i
domain_offset_of MMsiAddrCfg = Some 0x1bc0
domain_offset_of MMsiAddrCfgH = Some 0x1bc4
domain_offset_of SMsiAddrCfg = Some 0x1bc8
domain_offset_of SMsiAddrCfgH = Some 0x1bcc
domain_offset_of (SetIp k) = offset_of_index 0x1c00 4 0 31 k
domain_offset_of SetIpNum = Some 0x1cdc
domain_offset_of (InClrIp k) = offset_of_index 0x1d00 4 0 31 k
domain_offset_of ClrIpNum = Some 0x1ddc
domain_offset_of (SetIe k) = offset_of_index 0x1e00 4 0 31 k
domain_offset_of SetIeNum = Some 0x1edc
domain_offset_of (ClrIe k) = offset_of_index 0x1f00 4 0 31 k
domain_offset_of ClrIeNum = Some 0x1fdc
domain_offset_of SetIpNumLe = Some 0x2000
domain_offset_of SetIpNumBe = Some 0x2004
domain_offset_of GenMsi = Some 0x3000
domain_offset_of (Target i) = offset_of_index 0x3000 4 1 1023 i
domain_offset_of (IDelivery h) = offset_of_index 0x4000 32 0 LAST_CONTROL h
domain_offset_of (IForce h) = offset_of_index 0x4004 32 0 LAST_CONTROL h
domain_offset_of (IThreshold h) = offset_of_index 0x4008 32 0 LAST_CONTROL h
domain_offset_of (TopI h) = offset_of_index 0x4018 32 0 LAST_CONTROL h
domain_offset_of (ClaimI h) = offset_of_index 0x401c 32 0 LAST_CONTROL h
domain_offset_of Nothing = None
