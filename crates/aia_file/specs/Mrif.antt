-- A memory-resident interrupt file (MRIF): its two sets, where memory keeps them, and what becomes
-- of a store to it.
-- AIA 1.0, IOMMU Support for MSIs to Virtual Machines, "Memory-resident interrupt files".
use Rattle.std.specs.Prelude.{ℕ, ◌+◌, ◌*◌, ◌/◌, ◌%◌, Bool, ◌&&◌, nat_le, if◌then◌else◌, List, slice_index, Option, Some, None}
use Rattle.aia_word.specs.Sets.{has_bit}
use Rattle.aia_regs.specs.declared.limits.TheConstants.{IDENTITIES, SLOT_WORDS}
use Rattle.aia_regs.specs.BitUpdate.{set_after}
use Rattle.aia_regs.specs.Request.{request_said}
use Rattle.aia_file.specs.declared.stored.Stored.{Stored}
use Rattle.aia_file.specs.declared.stored.Stored.TheVariants.{Discarded, Quiet, Notice}

-- The sets of pending and of enabled identities.
pub record Mrif : Type 0 where
  pub pending : ℕ → Bool
  pub enabled : ℕ → Bool

-- ---- where memory keeps it

-- The place in memory, counted in words of 64 bits, of pending word k and of enable word k of slot
-- q: a slot has pairs of words, each with the pending and then the enable bits of 64 identities.
-- Profile: slot q is the SLOT bytes of memory from byte SLOT * q on.
abbrev pub pending_place : ℕ → ℕ → ℕ
pending_place q k = SLOT_WORDS * q + 2 * k

abbrev pub enable_place : ℕ → ℕ → ℕ
enable_place q k = SLOT_WORDS * q + 2 * k + 1

-- The set whose word k stands at `place k`: identity i, up to the greatest, is bit i mod 64 of word
-- i / 64. Bit 0 of the first word, which shows as number 0, belongs to no identity.
abbrev pub set_at : (ℕ → ℕ) → List ℕ → ℕ → Bool
set_at place words i =
    nat_le i IDENTITIES && has_bit (slice_index words (place (i / 64))) (i % 64)

-- The MRIF in slot q of memory.
abbrev pub mrif_in : List ℕ → ℕ → Mrif
mrif_in words q = record {
  pending = set_at (pending_place q) words;
  enabled = set_at (enable_place q) words;
}

-- ---- a 32-bit store of a value at an offset of it

-- The MRIF after a store, which asks for the identity that it names.
abbrev pub after_store : ℕ → ℕ → Mrif → Mrif
after_store offset value mrif =
    record mrif { pending = set_after (request_said IDENTITIES offset value) mrif.pending }

-- What becomes of it, given the identity that it names: a notice is to be sent exactly where that
-- one is enabled. Profile: also where it was pending before, and a store of 0 is discarded.
abbrev pub stored : Mrif → Option ℕ → Stored
stored mrif None = Discarded
stored mrif (Some i) = if mrif.enabled i then Notice else Quiet
