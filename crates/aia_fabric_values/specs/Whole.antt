-- What is true of the world at all times. Vocabulary.
use Rattle.std.specs.Prelude.{◌≡◌, ℕ, ◌+◌, ◌*◌, ◌^◌, ◌<◌, ◌≤◌, true, false, length, slice_index, All}
use Rattle.aia_word.specs.Packed.{ones}
use Rattle.aia_word.specs.Sets.{has_bit}
use Rattle.aia_regs.specs.declared.limits.TheConstants.{HARTS, GUEST_FILES, VMS, VCPUS, ENTRIES, MEMORY_WORDS}
use Rattle.aia_file.specs.InterruptFile.{is_greatest_identity}
use Rattle.aia_file.specs.FileState.{FileState}
use Rattle.aia_file.specs.Mrif.{pending_place, enable_place}
use Rattle.aia_entry.specs.Tables.{table_of}
use Rattle.aia_entry.specs.Translation.{IsMask}
use Rattle.aia_vcpu.specs.Vms.{vm_in, vcpus_in}
use Rattle.aia_fabric_values.specs.World.{World}
use Rattle.aia_fabric_values.specs.Making.{table_byte}

-- A VM that stands, with its table.
pub record IsVm (w : World) (v : ℕ) : Type 0 where
  pub mask : IsMask (vm_in w.vms v).mask
  pub numbers : (vm_in w.vms v).vcpus ≤ 2 ^ ones 64 (vm_in w.vms v).mask
  pub notice_hart : (vm_in w.vms v).notice_hart < w.imsic.harts
  pub same_mask : (table_of w.tables v).mask ≡ (vm_in w.vms v).mask
  pub start : (table_of w.tables v).start ≡ table_byte v
  pub entries : length (table_of w.tables v).in_force ≡ ENTRIES

-- Every file has the world's identities, memory has its slots, of which none has identity 0, and
-- its tables, each VM has its table and its stores in flight, and each virtual hart its record.
pub record IsWhole (w : World) : Type 0 where
  pub harts : w.imsic.harts ≤ HARTS
  pub guests : w.imsic.guests ≤ GUEST_FILES
  pub files : length w.imsic.files ≡ w.imsic.harts * (w.imsic.guests + 2)
  pub greatest : is_greatest_identity w.n ≡ true
  pub width : All (λ (f : FileState). f.n ≡ w.n) w.imsic.files
  pub memory : length w.memory ≡ MEMORY_WORDS
  pub no_pending_zero : (q : ℕ) → q < VCPUS
      → has_bit (slice_index w.memory (pending_place q 0)) 0 ≡ false
  pub no_enabled_zero : (q : ℕ) → q < VCPUS
      → has_bit (slice_index w.memory (enable_place q 0)) 0 ≡ false
  pub few : length w.vms ≤ VMS
  pub tables : length w.tables ≡ length w.vms
  pub flights : length w.flights ≡ length w.vms
  pub vcpus : vcpus_in w.vms ≤ VCPUS
  pub vms : (v : ℕ) → v < length w.vms → IsVm w v
  pub stages : length w.stages ≡ VCPUS
