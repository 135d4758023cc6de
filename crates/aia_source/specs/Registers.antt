-- The registers of a domain that concern its wired sources: what a write of each keeps, and which
-- sources it names.
-- AIA 1.0, APLIC, where no comment names another source; a heading of that chapter is named without
-- it.
use Rattle.std.specs.Prelude.{ℕ, ◌+◌, ◌/◌, ◌%◌, ◌^◌, Bool, true, false, not, ◌&&◌, ◌||◌, nat_eq, nat_lt, if◌then◌else◌, Option, Some, None}
use Rattle.std.specs.Int.{swap_bytes, w32}
use Rattle.aia_regs.specs.declared.domain_registers.DomainReg.{DomainReg}
use Rattle.aia_regs.specs.declared.domain_registers.DomainReg.TheVariants.{SetIp, SetIpNum, InClrIp, ClrIpNum, SetIe, SetIeNum, ClrIe, ClrIeNum, SetIpNumLe, SetIpNumBe}
use Rattle.aia_regs.specs.Fields.{field, with_field}
use Rattle.aia_regs.specs.Operations.{has_bit}
use Rattle.aia_regs.specs.BitUpdate.{BitUpdate}
use Rattle.aia_regs.specs.BitUpdate.BitUpdate.{Ask, Clear, Nothing}
use Rattle.aia_source.specs.declared.kept.TheConstants.{IE, DM, D, DELEGATED, DOMAINCFG_ONES}
use Rattle.aia_source.specs.declared.mode.Mode.{Mode}
use Rattle.aia_source.specs.declared.mode.Mode.TheVariants.{Inactive, Detached, RisingEdge, FallingEdge, LevelHigh, LevelLow}
use Rattle.aia_source.specs.declared.touch.Touch.{Touch}
use Rattle.aia_source.specs.declared.touch.Touch.TheVariants.{SetPending, ClearPending, SetEnable, ClearEnable}
use Rattle.aia_regs.specs.Top.{hart_of, priority_of, identity_of}
use Rattle.aia_source.specs.Wired.{SourceDeed}
use Rattle.aia_source.specs.Wired.SourceDeed.{Set, Cleared, Untouched}

-- ---- bits and conditions

-- Whether two truth values are the same. Vocabulary.
abbrev pub same_bool : Bool → Bool → Bool
same_bool true b = b
same_bool false b = not b

-- A number with a one at bit b, or with none. Vocabulary.
abbrev pub one_at : Bool → ℕ → ℕ
one_at bit b = if bit then 2 ^ b else 0

-- Whether a register's index is a source's number: they are numbered from 1, and 0 is none's.
abbrev pub is_number_of : ℕ → ℕ → Bool
is_number_of i s = nat_eq i s && nat_lt 0 s

-- ---- domaincfg

-- The domaincfg that has IE and DM in their places.
abbrev pub domaincfg_with : Bool → Bool → ℕ
domaincfg_with ie dm = one_at ie IE + one_at dm DM

-- What a write keeps: IE and DM of the value. Profile: BE is read-only zero.
abbrev pub domaincfg_kept : ℕ → ℕ
domaincfg_kept v = domaincfg_with (has_bit v IE) (has_bit v DM)

-- What domaincfg reads: 0x80 in bits 31:24, IE and DM.
abbrev pub domaincfg_read : Bool → Bool → ℕ
domaincfg_read ie dm = DOMAINCFG_ONES + domaincfg_with ie dm

-- Whether a domaincfg enables the domain's interrupts: IE.
abbrev pub enables : ℕ → Bool
enables cfg = has_bit cfg IE

-- Whether the domain delivers by MSIs: DM.
abbrev pub is_by_msi : ℕ → Bool
is_by_msi cfg = has_bit cfg DM

-- ---- sourcecfg

-- The source mode that a write of this SM keeps.
-- Profile: a reserved one, 2 or 3, becomes 0, inactive.
abbrev pub legal_mode : ℕ → ℕ
legal_mode sm = if nat_eq sm 2 || nat_eq sm 3 then 0 else sm

-- What a write keeps in the root domain: with D, the source is delegated to the child domain that
-- bits 9:0 name; without, SM, bits 2:0, is its mode.
-- Profile: there is one child, with the index 0; another index makes the register
-- 0.
abbrev pub root_sourcecfg : ℕ → ℕ
root_sourcecfg v =
    if has_bit v D then (if nat_eq (field v 9 0) 0 then DELEGATED else 0)
    else legal_mode (field v 2 0)

-- What it keeps in the child domain, which has no child: D makes the register 0.
abbrev pub child_sourcecfg : ℕ → ℕ
child_sourcecfg v = if has_bit v D then 0 else legal_mode (field v 2 0)

-- Whether a sourcecfg of the root domain delegates the source.
abbrev pub delegates : ℕ → Bool
delegates cfg = nat_eq cfg DELEGATED

-- The mode that a sourcecfg gives.
abbrev pub mode_of : ℕ → Mode
mode_of cfg =
    if nat_eq cfg 1 then Detached
    else (if nat_eq cfg 4 then RisingEdge
    else (if nat_eq cfg 5 then FallingEdge
    else (if nat_eq cfg 6 then LevelHigh
    else (if nat_eq cfg 7 then LevelLow
    else Inactive))))

-- The SM of a mode.
abbrev pub mode_number : Mode → ℕ
mode_number Inactive = 0
mode_number Detached = 1
mode_number RisingEdge = 4
mode_number FallingEdge = 5
mode_number LevelHigh = 6
mode_number LevelLow = 7

-- ---- which sources a store names: by the ones of a word of 32, or by number
-- "Memory-mapped control region for an interrupt domain".

-- Word k has the sources 32k to 32k + 31.
abbrev pub in_word : ℕ → ℕ → ℕ → Bool
in_word k v s = nat_eq (s / 32) k && has_bit v (s % 32)

-- A touch of those that are named, and of no other.
abbrev pub touch_where : (ℕ → Bool) → Touch → ℕ → Option Touch
touch_where named touch s = if named s then Some touch else None

-- What a store of v to a register does to source s; None where it does not touch its bits.
abbrev pub touch : DomainReg → ℕ → ℕ → Option Touch
touch (SetIp k) v s = touch_where (in_word k v) SetPending s
touch SetIpNum v s = touch_where (nat_eq v) SetPending s
touch SetIpNumLe v s = touch_where (nat_eq v) SetPending s
touch SetIpNumBe v s = touch_where (nat_eq (swap_bytes w32 v)) SetPending s
touch (InClrIp k) v s = touch_where (in_word k v) ClearPending s
touch ClrIpNum v s = touch_where (nat_eq v) ClearPending s
touch (SetIe k) v s = touch_where (in_word k v) SetEnable s
touch SetIeNum v s = touch_where (nat_eq v) SetEnable s
touch (ClrIe k) v s = touch_where (in_word k v) ClearEnable s
touch ClrIeNum v s = touch_where (nat_eq v) ClearEnable s
touch reg v s = None

-- What a touch is to the source's pending bit, and what it says of its enable bit.
abbrev pub deed_of_touch : Option Touch → SourceDeed
deed_of_touch (Some SetPending) = Set
deed_of_touch (Some ClearPending) = Cleared
deed_of_touch touch = Untouched

abbrev pub enable_of_touch : Option Touch → BitUpdate
enable_of_touch (Some SetEnable) = Ask
enable_of_touch (Some ClearEnable) = Clear
enable_of_touch touch = Nothing

-- ---- target and genmsi

-- The target of a source that becomes active, and of each active source when the delivery mode
-- changes: hart 0, and where the domain delivers directly priority 1. Profile.
abbrev pub first_target : Bool → ℕ
first_target msi = if msi then 0 else 1

-- The hart index that a write keeps, of so many harts. Profile: one that isn't there becomes 0.
abbrev pub legal_hart : ℕ → ℕ → ℕ
legal_hart harts x = if nat_lt x harts then x else 0

-- The priority that a write keeps: 0 becomes 1.
abbrev pub legal_priority : ℕ → ℕ
legal_priority x = if nat_eq x 0 then 1 else x

-- What a write keeps in bits 31:18, the hart index, the others being 0.
abbrev pub hart_kept : ℕ → ℕ → ℕ
hart_kept harts v = with_field 0 31 18 (legal_hart harts (hart_of v))

-- What a write of genmsi keeps where the domain delivers by MSIs: the hart index, and the identity
-- in bits 10:0; Busy, bit 12, is 0.
-- Profile: the MSI is sent at once.
abbrev pub genmsi_kept : ℕ → ℕ → ℕ
genmsi_kept harts v = with_field (hart_kept harts v) 10 0 (identity_of v)

-- What a write of a source's target keeps: by MSIs what genmsi keeps, and else the hart index and,
-- in bits 7:0, the priority.
-- Profile: by MSIs the guest index, bits 17:12, is read-only zero.
abbrev pub target_kept : ℕ → Bool → ℕ → ℕ
target_kept harts msi v =
    if msi then genmsi_kept harts v
    else with_field (hart_kept harts v) 7 0 (legal_priority (priority_of v))
