-- What one access of a move's plan changes: one word, register, record or entry; all else stays.
use Rattle.std.specs.Prelude.{◌≡◌, ℕ, ◌+◌, ◌/◌, ◌<◌, length, slice_index, slice_set, Option, Some, None}
use Rattle.aia_regs.specs.declared.limits.TheConstants.{FILE_WORDS, VCPUS}
use Rattle.aia_regs.specs.declared.access.Op.TheVariants as ops
use Rattle.aia_regs.specs.declared.file_registers.FileReg.{FileReg}
use Rattle.aia_file.specs.FileState.{FileState, shown}
use Rattle.aia_file.specs.InterruptFile.{InterruptFile, SameFile, accessed, empty_file}
use Rattle.aia_file.specs.declared.spot.Spot.{Spot}
use Rattle.aia_file.specs.declared.spot.Spot.TheVariants.{GuestFile}
use Rattle.aia_file.specs.Imsic.{IsThere, file_at, with_file}
use Rattle.aia_file.specs.Mrif.{pending_place, enable_place}
use Rattle.aia_entry.specs.Tables.{fenced_at}
use Rattle.aia_vcpu.specs.declared.place.GuestPlace.{GuestPlace}
use Rattle.aia_vcpu.specs.Vms.{Vcpu, slot_of}
use Rattle.aia_fabric_values.specs.declared.at.At.{At}
use Rattle.aia_fabric_values.specs.declared.at.At.TheVariants.{File, Slot}
use Rattle.aia_fabric_values.specs.declared.stage.Stage.{Stage}
use Rattle.aia_fabric_values.specs.World.{World, stage_of}
use Rattle.aia_fabric_values.specs.Making.{entry_word_place}

-- ---- a place with two sets

-- Whether a place is there, and how many words each of its sets has.
abbrev pub IsPlaceThere : World → At → Type 0
IsPlaceThere w (File spot) = IsThere w.imsic spot
IsPlaceThere w (Slot q) = q < VCPUS

abbrev pub words_at : World → At → ℕ
words_at w (File spot) = (w.n + 1) / 64
words_at w (Slot q) = FILE_WORDS

-- How many words a place keeps of each set: that many, where its world is whole.
abbrev pub pending_words : World → At → ℕ
pending_words w (File spot) = length (file_at w.imsic spot).pending
pending_words w (Slot q) = FILE_WORDS

abbrev pub enable_words : World → At → ℕ
enable_words w (File spot) = length (file_at w.imsic spot).enabled
enable_words w (Slot q) = FILE_WORDS

-- A word of memory is written.
abbrev pub with_word : World → ℕ → ℕ → World
with_word w place v = record w { memory = slice_set w.memory place v }

-- A file is replaced.
abbrev pub with_state : World → Spot → FileState → World
with_state w spot file = record w { imsic = with_file w.imsic spot file }

-- Word k of the pending set of a place; it is written.
abbrev pub pending_at : World → At → ℕ → ℕ
pending_at w (File spot) k = slice_index (file_at w.imsic spot).pending k
pending_at w (Slot q) k = slice_index w.memory (pending_place q k)

abbrev pub with_pending : World → At → ℕ → ℕ → World
with_pending w (File spot) k v = with_state w spot
    (record (file_at w.imsic spot) { pending = slice_set (file_at w.imsic spot).pending k v })
with_pending w (Slot q) k v = with_word w (pending_place q k) v

-- Word k of the enabled set of a place; it is written.
abbrev pub enable_at : World → At → ℕ → ℕ
enable_at w (File spot) k = slice_index (file_at w.imsic spot).enabled k
enable_at w (Slot q) k = slice_index w.memory (enable_place q k)

abbrev pub with_enable : World → At → ℕ → ℕ → World
with_enable w (File spot) k v = with_state w spot
    (record (file_at w.imsic spot) { enabled = slice_set (file_at w.imsic spot).enabled k v })
with_enable w (Slot q) k v = with_word w (enable_place q k) v

-- ---- a register of a file

-- A value is written to a register of the file at a place; every other file stays, and all else.
pub record PutsRegister (w u : World) (spot : Spot) (reg : FileReg) (v : ℕ) : Type 0 where
  pub lands : SameFile (shown (file_at u.imsic spot))
      (accessed reg (ops.Write v) (shown (file_at w.imsic spot)))
  pub others : u ≡ with_state w spot (file_at u.imsic spot)

-- ---- the routes

-- Word 0 or 1 of the entry of a file of a VM is written.
abbrev pub with_entry_word : World → ℕ → ℕ → ℕ → ℕ → World
with_entry_word w vm file which v = with_word w (entry_word_place vm file + which) v

-- The entry is put in force, as its words say it.
abbrev pub with_fence : World → ℕ → ℕ → World
with_fence w vm file = record w { tables = fenced_at w.tables vm file w.memory }

-- The G-stage record of a virtual hart is replaced; it is written; it is put in force.
abbrev pub with_stage : World → Vcpu → Stage → World
with_stage w g stage = record w { stages = slice_set w.stages (slot_of w.vms g) stage }

abbrev pub with_map : World → Vcpu → Option GuestPlace → World
with_map w g to = with_stage w g (record (stage_of w g) { written = to })

abbrev pub with_gfence : World → Vcpu → World
with_gfence w g = with_stage w g (record (stage_of w g) { in_force = (stage_of w g).written })

-- ---- what the places of a virtual hart show

-- Where a guest file is among all files.
abbrev pub spot_of : GuestPlace → Spot
spot_of p = GuestFile p.hart p.file

-- The interrupt file in a guest file; the empty one where there is none.
abbrev pub file_in : World → Option GuestPlace → InterruptFile
file_in w None = empty_file w.n
file_in w (Some p) = shown (file_at w.imsic (spot_of p))
