-- A memory-resident interrupt file (MRIF) as an interrupt file, which the accesses of a guest reach
-- by its hypervisor while no file of a hart holds its interrupts, and what such an access keeps.
-- AIA 1.0, IOMMU Support for MSIs to Virtual Machines, "Memory-resident interrupt files".
use Rattle.std.specs.Prelude.{◌≡◌, ◌⊎◌, ℕ, ◌+◌, ◌*◌, ◌%◌, ◌<◌, ◌≤◌, false, ◌&&◌, List, length, slice_index}
use Rattle.std.specs.Int.{is_in_range}
use Rattle.aia_regs.specs.declared.limits.TheConstants.{SLOT_WORDS}
use Rattle.aia_regs.specs.declared.file_registers.FileReg.{FileReg}
use Rattle.aia_regs.specs.declared.file_registers.FileReg.TheVariants.{Pending, Enable}
use Rattle.aia_file.specs.InterruptFile.{InterruptFile}
use Rattle.aia_file.specs.Mrif.{Mrif, mrif_in}

-- The MRIF as an interrupt file of the identities 1 to n with a threshold; it shows no other
-- identity. Its eidelivery says nothing: a slot has none.
abbrev pub slot_file : ℕ → ℕ → Mrif → InterruptFile
slot_file n threshold slot = record {
  n = n;
  pending = λ i. is_in_range 1 n i && slot.pending i;
  enabled = λ i. is_in_range 1 n i && slot.enabled i;
  threshold = threshold;
  delivery = 0;
}

-- A register of one of the two sets: eip or eie with an index that is even and below the words of
-- a slot.
abbrev pub IsOfSets : FileReg → Type 0
IsOfSets (Pending k) = (k % 2 ≡ 0) × (k < SLOT_WORDS)
IsOfSets (Enable k) = (k % 2 ≡ 0) × (k < SLOT_WORDS)
IsOfSets r = ⊥

-- Memory changes only in the bits of the identities 1 to n of slot q: it keeps its size, the other
-- bits of the slot and every word elsewhere.
pub record KeepsAllElse (old new : List ℕ) (q n : ℕ) : Type 0 where
  pub size : length new ≡ length old
  pub kept : (i : ℕ) → is_in_range 1 n i ≡ false
      → ((mrif_in new q).pending i ≡ (mrif_in old q).pending i)
      × ((mrif_in new q).enabled i ≡ (mrif_in old q).enabled i)
  pub elsewhere : (place : ℕ) → (place < SLOT_WORDS * q) ⊎ (SLOT_WORDS * (q + 1) ≤ place)
      → slice_index new place ≡ slice_index old place
