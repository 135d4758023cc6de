-- What the two words of an entry of an MSI page table say, and the words that say it. Profile: the
-- layout, and the order of the looks.
-- AIA 1.0, IOMMU Support for MSIs to Virtual Machines, "MSI page tables".
use Rattle.std.specs.Prelude.{ℕ, ◌+◌, ◌*◌, ◌/◌, ◌%◌, ◌^◌, Bool, not, ◌&&◌, nat_eq, if◌then◌else◌}
use Rattle.aia_regs.specs.Fields.{field}
use Rattle.aia_word.specs.Sets.{has_bit}
use Rattle.aia_entry.specs.declared.entry.Entry.{Entry}
use Rattle.aia_entry.specs.declared.entry.Entry.TheVariants.{Basic, Mrif, NotValid, Custom, Misconfigured}

-- ---- what the words say

-- Whether the reserved bits of a basic entry's word 0 are 0.
abbrev pub is_plain_basic : ℕ → Bool
is_plain_basic w0 = nat_eq (field w0 9 3) 0 && nat_eq (field w0 62 54) 0

-- Whether the reserved bits of both words of an MRIF entry are 0.
abbrev pub is_plain_mrif : ℕ → ℕ → Bool
is_plain_mrif w0 w1 =
    nat_eq (field w0 6 3) 0 && nat_eq (field w0 62 54) 0
    && nat_eq (field w1 59 54) 0 && nat_eq (field w1 63 61) 0

-- The identity of an MRIF entry's notices: its low ten bits, and bit 10 apart from them.
abbrev pub named_identity : ℕ → ℕ
named_identity w1 = field w1 9 0 + 1024 * field w1 60 60

-- What a valid entry that is not custom says: mode 3 is basic, mode 1 MRIF.
abbrev pub decoded_by_mode : ℕ → ℕ → ℕ → Entry
decoded_by_mode mode w0 w1 =
    if nat_eq mode 3 && is_plain_basic w0 then Basic (field w0 53 10)
    else (if nat_eq mode 1 && is_plain_mrif w0 w1
    then Mrif (field w0 53 7 * 512) (field w1 53 10) (named_identity w1)
    else Misconfigured)

-- What an entry says: whether it is valid is looked at first, then whether it is custom.
abbrev pub decoded : ℕ → ℕ → Entry
decoded w0 w1 =
    if not (has_bit w0 0) then NotValid
    else (if has_bit w0 63 then Custom else decoded_by_mode (field w0 2 1) w0 w1)

-- ---- the words that say it

-- Word 0 of the basic entry for a page.
abbrev pub basic_word : ℕ → ℕ
basic_word page = page * 1024 + 7

-- Word 0 of the MRIF entry for a memory-resident interrupt file at an address, a multiple of 512.
abbrev pub mrif_word : ℕ → ℕ
mrif_word addr = addr / 4 + 3

-- Word 1 of an MRIF entry: the page and the identity of its notices.
abbrev pub notice_word : ℕ → ℕ → ℕ
notice_word page identity = page * 1024 + identity % 1024 + identity / 1024 * 2 ^ 60
