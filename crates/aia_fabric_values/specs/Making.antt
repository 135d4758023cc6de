-- What stands as the machine is made, and what the making of a VM changes. Profile: the layout of
-- memory.
use Rattle.std.specs.Prelude.{◌≡◌, ℕ, ◌+◌, ◌-◌, ◌*◌, ◌/◌, ◌<◌, ◌⊎◌, ◌≤◌, nat_lt, if◌then◌else◌, List, [], ◌∷◌, ◌++◌, length, replicate, slice_index, slice_set}
use Rattle.aia_regs.specs.declared.address_map.TheConstants.{MEMORY, PAGE}
use Rattle.aia_regs.specs.declared.limits.TheConstants.{VCPUS, MEMORY_WORDS}
use Rattle.aia_regs.specs.AddressMap.{supervisor_page, slot_address, table_address}
use Rattle.aia_file.specs.Imsic.{ImsicState, AreEmpty}
use Rattle.aia_entry.specs.declared.entry.Entry.{Entry}
use Rattle.aia_entry.specs.declared.entry.Entry.TheVariants.{Mrif, NotValid}
use Rattle.aia_entry.specs.Format.{mrif_word, notice_word}
use Rattle.aia_entry.specs.Tables.{new_table, table_of, entry_in_force, fenced_at}
use Rattle.aia_vcpu.specs.declared.vm.Vm.{Vm}
use Rattle.aia_vcpu.specs.Vms.{vcpus_in}
use Rattle.aia_fabric_values.specs.World.{World, no_stage}

-- ---- a new machine

-- With these files, which have the identities 1 to n: memory is 0, no VM stands, no store is in
-- flight, no G-stage record names a file, and no notice was sent.
abbrev pub new_world : ImsicState → ℕ → World
new_world files n = record {
  n = n;
  imsic = files;
  memory = replicate MEMORY_WORDS 0;
  vms = [];
  tables = [];
  flights = [];
  stages = replicate VCPUS no_stage;
  notices = 0;
}

-- Of so many harts, guest files a hart and identities: all files are empty.
pub record IsNew (w : World) (harts guests n : ℕ) : Type 0 where
  pub world : w ≡ new_world w.imsic n
  pub hart_count : w.imsic.harts ≡ harts
  pub guest_count : w.imsic.guests ≡ guests
  pub files : AreEmpty w.imsic n

-- ---- a new VM

-- The byte of memory at which the table of a VM begins.
abbrev pub table_byte : ℕ → ℕ
table_byte vm = table_address vm - MEMORY

-- The page to which notices for a VM go.
abbrev pub notice_page : Vm → ℕ
notice_page vm = supervisor_page vm.notice_hart / PAGE

-- The entry in force of each file of a new VM, whose virtual harts are numbered from `first` on
-- over all VMs: each virtual hart's leads to its slot; there is no other.
abbrev pub made_entry : Vm → ℕ → ℕ → Entry
made_entry vm first file =
    if nat_lt file vm.vcpus
    then Mrif (slot_address (first + file)) (notice_page vm) (first + file + 1)
    else NotValid

-- The word of memory at which the entry of a file of a VM begins.
abbrev pub entry_word_place : ℕ → ℕ → ℕ
entry_word_place vm file = (table_byte vm + 16 * file) / 8

-- The next VM is made: it stands last, its table is the next in memory, each virtual hart's entry
-- is written and in force, and no store of its devices is in flight; all other words of memory, all
-- other tables and all files stay.
pub record MakesVm (w u : World) (vm : Vm) : Type 0 where
  pub vms : u.vms ≡ w.vms ++ vm ∷ []
  pub count : length u.tables ≡ length w.tables + 1
  pub others : (v : ℕ) → v < length w.tables → table_of u.tables v ≡ table_of w.tables v
  pub mask : (table_of u.tables (length w.tables)).mask ≡ vm.mask
  pub start : (table_of u.tables (length w.tables)).start ≡ table_byte (length w.tables)
  pub in_force : (file : ℕ) → entry_in_force (table_of u.tables (length w.tables)) file
      ≡ made_entry vm (vcpus_in w.vms) file
  pub word0 : (file : ℕ) → file < vm.vcpus
      → slice_index u.memory (entry_word_place (length w.tables) file)
      ≡ mrif_word (slot_address (vcpus_in w.vms + file))
  pub word1 : (file : ℕ) → file < vm.vcpus
      → slice_index u.memory (entry_word_place (length w.tables) file + 1)
      ≡ notice_word (notice_page vm) (vcpus_in w.vms + file + 1)
  pub elsewhere : (place : ℕ)
      → (place < entry_word_place (length w.tables) 0)
      ⊎ (entry_word_place (length w.tables) vm.vcpus ≤ place)
      → slice_index u.memory place ≡ slice_index w.memory place
  pub flights : u.flights ≡ w.flights ++ [] ∷ []
  pub rest : u ≡ record w {
    vms = u.vms;
    tables = u.tables;
    flights = u.flights;
    memory = u.memory;
  }

-- ---- one entry

-- Memory with both words of a file's entry: it leads to the slot, and its notices have the slot's
-- number, counted from 1, as identity.
abbrev pub words_with_entry : List ℕ → ℕ → ℕ → ℕ → ℕ → List ℕ
words_with_entry words vm file slot page =
    slice_set (slice_set words (entry_word_place vm file) (mrif_word (slot_address slot)))
    (entry_word_place vm file + 1) (notice_word page (slot + 1))

-- The same, with the entry in force.
abbrev pub with_entry : World → ℕ → ℕ → ℕ → ℕ → World
with_entry w vm file slot page = record w {
  memory = words_with_entry w.memory vm file slot page;
  tables = fenced_at w.tables vm file (words_with_entry w.memory vm file slot page);
}

-- A VM stands last, its table, where no entry in force is valid, is the next in memory, and no
-- store of its devices is in flight.
abbrev pub with_vm : World → Vm → World
with_vm w vm = record w {
  vms = w.vms ++ vm ∷ [];
  tables = w.tables ++ new_table vm.mask (table_byte (length w.tables)) ∷ [];
  flights = w.flights ++ [] ∷ [];
}
