-- What a store for one virtual hart may touch of the world: its own places, and its own notice
-- identity at the file of its notice hart.
use Rattle.std.specs.Prelude.{◌≡◌, ◌≢◌, ◌⊎◌, ℕ, ◌+◌, ◌<◌, true, false, slice_index, Option, Some}
use Rattle.aia_file.specs.FileState.{shown}
use Rattle.aia_file.specs.InterruptFile.{SameFile, landed}
use Rattle.aia_file.specs.declared.spot.Spot.TheVariants.{MachineFile, SupervisorFile}
use Rattle.aia_file.specs.Imsic.{IsThere, file_at}
use Rattle.aia_file.specs.Mrif.{mrif_in}
use Rattle.aia_entry.specs.declared.entry.Entry.TheVariants.{NotValid}
use Rattle.aia_entry.specs.Tables.{table_of, entry_in_force}
use Rattle.aia_vcpu.specs.declared.place.GuestPlace.{GuestPlace}
use Rattle.aia_vcpu.specs.Vms.{Vcpu, is_vcpu_in, slot_of, notice_identity, notice_hart}
use Rattle.aia_vcpu_places.specs.Places.{leads_to}
use Rattle.aia_fabric_values.specs.World.{World, OnlyStores}
use Rattle.aia_fabric_values.specs.Making.{entry_word_place}
use Rattle.aia_fabric_values.specs.Changes.{spot_of}

-- A store for a virtual hart, which is led to a guest file or, with None, to its slot, touches only
-- what that virtual hart owns.
pub record TouchesOwn (w u : World) (g : Vcpu) (reach : Option GuestPlace) : Type 0 where
  -- the machine, its VMs, all that is in force in their tables, and the G-stage records stay
  pub rest : OnlyStores w u
  -- guest files: the one to which it is led is all that it touches
  pub guest_files : (p : GuestPlace) → IsThere w.imsic (spot_of p) → reach ≢ Some p
      → file_at u.imsic (spot_of p) ≡ file_at w.imsic (spot_of p)
  -- files of the host: none but that of the notice hart, where it may ask for the notice identity
  pub machine_files : (hart : ℕ) → hart < w.imsic.harts
      → file_at u.imsic (MachineFile hart) ≡ file_at w.imsic (MachineFile hart)
  pub host_files : (hart : ℕ) → hart < w.imsic.harts → hart ≢ notice_hart w.vms g
      → file_at u.imsic (SupervisorFile hart) ≡ file_at w.imsic (SupervisorFile hart)
  pub notice : (file_at u.imsic (SupervisorFile (notice_hart w.vms g))
      ≡ file_at w.imsic (SupervisorFile (notice_hart w.vms g)))
      ⊎ SameFile (shown (file_at u.imsic (SupervisorFile (notice_hart w.vms g))))
      (landed 0 (notice_identity w.vms g)
      (shown (file_at w.imsic (SupervisorFile (notice_hart w.vms g)))))
  -- memory: its slot is all that it touches, and no word of a table
  pub slots : (q : ℕ) → q ≢ slot_of w.vms g → mrif_in u.memory q ≡ mrif_in w.memory q
  pub entry_words : (x : Vcpu)
      → (slice_index u.memory (entry_word_place x.vm x.vcpu)
      ≡ slice_index w.memory (entry_word_place x.vm x.vcpu))
      × (slice_index u.memory (entry_word_place x.vm x.vcpu + 1)
      ≡ slice_index w.memory (entry_word_place x.vm x.vcpu + 1))

-- The entries of a VM that are in force lead to its own: that of each virtual hart to the guest
-- file at which stores are to reach it, which is there, or to its slot, with its notice; and there
-- is no other entry.
pub record LeadsToOwn (w : World) (v : ℕ) (reach : Vcpu → Option GuestPlace) : Type 0 where
  pub own : (g : Vcpu) → g.vm ≡ v → is_vcpu_in w.vms g ≡ true
      → entry_in_force (table_of w.tables g.vm) g.vcpu
      ≡ leads_to (slot_of w.vms g) (notice_hart w.vms g) (reach g)
  pub there : (g : Vcpu) (p : GuestPlace) → g.vm ≡ v → is_vcpu_in w.vms g ≡ true → reach g ≡ Some p
      → IsThere w.imsic (spot_of p)
  pub no_other : (g : Vcpu) → g.vm ≡ v → is_vcpu_in w.vms g ≡ false
      → entry_in_force (table_of w.tables g.vm) g.vcpu ≡ NotValid

-- A store touches one virtual hart of a VM, and only what that one owns.
pub record TouchesOneOf (w u : World) (v : ℕ) (reach : Vcpu → Option GuestPlace) : Type 0 where
  pub g : Vcpu
  pub its : g.vm ≡ v
  pub there : is_vcpu_in w.vms g ≡ true
  pub touches : TouchesOwn w u g (reach g)
