-- A slot of memory as an interrupt file, and what an access to it as one changes.
-- AIA 1.0, IOMMU Support for MSIs to Virtual Machines, "Memory-resident interrupt files".
use Rattle.std.specs.Prelude.{◌≡◌, ◌⊎◌, ℕ, ◌+◌, ◌*◌, ◌<◌, ◌≤◌, false, slice_index}
use Rattle.std.specs.Int.{is_in_range}
use Rattle.aia_regs.specs.declared.limits.TheConstants.{SLOT_WORDS}
use Rattle.aia_file.specs.InterruptFile.{InterruptFile, SameFile}
use Rattle.aia_file.specs.Mrif.{mrif_in}
use Rattle.aia_file.specs.SlotFile.{slot_file}
use Rattle.aia_fabric_values.specs.World.{World}

-- Slot q as an interrupt file of the machine's identities, with a threshold.
abbrev pub file_of_slot : World → ℕ → ℕ → InterruptFile
file_of_slot w q threshold = slot_file w.n threshold (mrif_in w.memory q)

-- Something was done about slot q as such a file. Identities that the files do not have are kept,
-- and so is all else: every other word of memory, and all but memory.
pub record DoneInSlot (w u : World) (q threshold : ℕ) (deed : InterruptFile → InterruptFile)
    : Type 0 where
  pub done : SameFile (file_of_slot u q threshold) (deed (file_of_slot w q threshold))
  pub kept : (i : ℕ) → is_in_range 1 w.n i ≡ false
      → ((mrif_in u.memory q).pending i ≡ (mrif_in w.memory q).pending i)
      × ((mrif_in u.memory q).enabled i ≡ (mrif_in w.memory q).enabled i)
  pub elsewhere : (place : ℕ) → (place < SLOT_WORDS * q) ⊎ (SLOT_WORDS * (q + 1) ≤ place)
      → slice_index u.memory place ≡ slice_index w.memory place
  pub rest : u ≡ record w { memory = u.memory }
