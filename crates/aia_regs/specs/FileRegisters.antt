-- The registers of an interrupt file, reached by a select number: which there are, and what a write
-- keeps.
-- AIA 1.0, IMSIC, "Indirectly accessed interrupt-file registers".
use Rattle.std.specs.Prelude.{◌≡◌, ℕ, ◌+◌, ◌-◌, ◌*◌, ◌%◌, ◌<◌, Bool, ◌&&◌, nat_eq, if◌then◌else◌}
use Rattle.std.specs.Int.{is_in_range}
use Rattle.aia_regs.specs.declared.limits.TheConstants.{SELECT_NUMBERS}
use Rattle.aia_regs.specs.declared.access.Op.{Op}
use Rattle.aia_regs.specs.declared.file_registers.FileReg.{FileReg}
use Rattle.aia_regs.specs.declared.file_registers.FileReg.TheVariants.{Delivery, Threshold, Pending, Enable, Reserved, Odd, Outside}
use Rattle.aia_regs.specs.BitUpdate.{BitUpdate}
use Rattle.aia_regs.specs.BitUpdate.BitUpdate.{Nothing}
use Rattle.aia_regs.specs.Operations.{is_writing, written, bit_said}

-- ---- which register a select number names

-- The register map: eidelivery, eithreshold, the reserved numbers about them, eip and eie, whose
-- odd numbers don't exist at XLEN 64.
-- Profile: all numbers outside 0x70 to 0xff name nothing.
abbrev pub register_of : ℕ → FileReg
register_of select =
    if nat_eq select 0x70 then Delivery
    else (if nat_eq select 0x72 then Threshold
    else (if is_in_range 0x71 0x7f select then Reserved
    else (if is_in_range 0x80 0xff select && nat_eq (select % 2) 1 then Odd
    else (if is_in_range 0x80 0xbf select then Pending (select - 0x80)
    else (if is_in_range 0xc0 0xff select then Enable (select - 0xc0)
    else Outside)))))

-- A register that a file serves: it exists, and of eip and eie the index is even and below 64.
abbrev pub IsUsable : FileReg → Type 0
IsUsable (Pending k) = (k % 2 ≡ 0) × (k < 64)
IsUsable (Enable k) = (k % 2 ≡ 0) × (k < 64)
IsUsable Odd = ⊥
IsUsable Outside = ⊥
IsUsable r = Unit {0}

-- ---- what an access says and keeps, by a file's greatest identity n

-- Whether register k of eip or eie shows identity i of 1 to n: it shows the identities 32k to 32k +
-- 63.
abbrev pub shows : ℕ → ℕ → ℕ → Bool
shows n k i = is_in_range 1 n i && is_in_range (32 * k) (32 * k + 63) i

-- What an access to register k of a set says of identity i, where it shows it.
abbrev pub set_said : ℕ → ℕ → Op → ℕ → BitUpdate
set_said n k op i = if shows n k i then bit_said op (i - 32 * k) else Nothing

-- What an access to a register says of identity i's being pending: only one to eip says anything.
abbrev pub eip_said : ℕ → FileReg → Op → ℕ → BitUpdate
eip_said n (Pending k) op i = set_said n k op i
eip_said n r op i = Nothing

-- What it says of identity i's being enabled: only one to eie says anything.
abbrev pub eie_said : ℕ → FileReg → Op → ℕ → BitUpdate
eie_said n (Enable k) op i = set_said n k op i
eie_said n r op i = Nothing

-- The number that a register keeps, given what it kept before: a read leaves it, a write leaves
-- what `kept` makes of the number written. Vocabulary.
abbrev pub number_after : (ℕ → ℕ) → Op → ℕ → ℕ
number_after kept op was = if is_writing op then kept (written op was) else was

-- What eithreshold is after an access. Profile: a write keeps the value modulo n + 1.
abbrev pub threshold_after : ℕ → FileReg → Op → ℕ → ℕ
threshold_after n Threshold op was = number_after (λ v. v % (n + 1)) op was
threshold_after n r op was = was

-- What eidelivery is after an access. Profile: a write keeps bit 0.
abbrev pub delivery_after : FileReg → Op → ℕ → ℕ
delivery_after Delivery op was = number_after (λ v. v % 2) op was
delivery_after r op was = was

-- What a select CSR is after an access. Profile: a write keeps the number modulo SELECT_NUMBERS.
abbrev pub select_written : Op → ℕ → ℕ
select_written op was = number_after (λ v. v % SELECT_NUMBERS) op was
