-- Where the MSIs of an APLIC's domains go, by the registers of MSI addresses.
-- AIA 1.0, APLIC, "Interrupt forwarding by MSIs".
use Rattle.std.specs.Prelude.{ℕ, ◌+◌, ◌*◌, ◌/◌, ◌%◌, ◌^◌, bit_or}
use Rattle.aia_regs.specs.Fields.{field}

-- The base page number in a pair of registers: the low half of it in one, bits 43:32 in the other.
abbrev pub base_page : ℕ → ℕ → ℕ
base_page cfg cfgh = field cfgh 11 0 * 2 ^ 32 + cfg

-- The group of a hart's index and its number in the group, by the widths of both in mmsiaddrcfgh:
-- HHXW, bits 18:16, and LHXW, bits 15:12.
abbrev pub group_of : ℕ → ℕ → ℕ
group_of mcfgh hart = hart / 2 ^ field mcfgh 15 12 % 2 ^ field mcfgh 18 16

abbrev pub member_of : ℕ → ℕ → ℕ
member_of mcfgh hart = hart % 2 ^ field mcfgh 15 12

-- The page of a hart's file: both parts of its index, each shifted to its place, over the base: the
-- group by HHXS, bits 28:24 of mmsiaddrcfgh, and 12 more, the number in the group by LHXS, bits
-- 22:20 of the pair's own register.
abbrev pub hart_page : ℕ → ℕ → ℕ → ℕ → ℕ
hart_page mcfgh cfg cfgh hart =
    bit_or
    (bit_or (base_page cfg cfgh) (group_of mcfgh hart * 2 ^ (field mcfgh 28 24 + 12)))
    (member_of mcfgh hart * 2 ^ field cfgh 22 20)

-- The address of a page, in 64 bits.
abbrev pub page_address : ℕ → ℕ
page_address page = page * 2 ^ 12 % 2 ^ 64

-- The address of an MSI to a hart at machine level, by mmsiaddrcfg and mmsiaddrcfgh; and at
-- supervisor level, by mmsiaddrcfgh, smsiaddrcfg and smsiaddrcfgh, to the hart's file or a guest's
-- of it.
abbrev pub machine_address : ℕ → ℕ → ℕ → ℕ
machine_address cfg cfgh hart = page_address (hart_page cfgh cfg cfgh hart)

abbrev pub supervisor_address : ℕ → ℕ → ℕ → ℕ → ℕ → ℕ
supervisor_address mcfgh cfg cfgh hart guest =
    page_address (bit_or (hart_page mcfgh cfg cfgh hart) guest)
