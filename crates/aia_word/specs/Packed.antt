-- The bits of a number that a mask picks out, packed together, and such bits put back in their
-- places. The lowest one of the mask picks the lowest bit of what is packed, and so on in order.
-- AIA 1.0, IOMMU Support for MSIs to Virtual Machines: extract.
use Rattle.std.specs.Prelude.{ℕ, zero, suc, ◌+◌, ◌*◌, ◌/◌, ◌%◌, nat_eq, if◌then◌else◌}

-- The bits of x at the ones among the lowest `count` bits of a mask, packed.
unfoldable pub packed : ℕ → ℕ → ℕ → ℕ
packed zero x mask = 0
packed (suc count) x mask =
    if nat_eq (mask % 2) 1 then x % 2 + 2 * packed count (x / 2) (mask / 2)
    else packed count (x / 2) (mask / 2)

-- The bits of x at the ones of a mask of 64 bits, packed; the bits above them are 0.
abbrev pub extract : ℕ → ℕ → ℕ
extract x mask = packed 64 x mask

-- The lowest bits of x at the ones among the lowest `count` bits of a mask; the other bits are 0.
-- Vocabulary: what undoes packing.
unfoldable pub spread : ℕ → ℕ → ℕ → ℕ
spread zero x mask = 0
spread (suc count) x mask =
    if nat_eq (mask % 2) 1 then x % 2 + 2 * spread count (x / 2) (mask / 2)
    else 2 * spread count x (mask / 2)

-- The lowest bits of x at the ones of a mask of 64 bits; the other bits are 0. Vocabulary.
abbrev pub deposit : ℕ → ℕ → ℕ
deposit x mask = spread 64 x mask

-- How many ones the lowest `count` bits of a number have. Vocabulary.
unfoldable pub ones : ℕ → ℕ → ℕ
ones zero x = 0
ones (suc count) x = x % 2 + ones count (x / 2)
