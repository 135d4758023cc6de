-- What stores change: those of devices go where the entry in force leads, those of guests where the
-- G-stage record in force does, notices to a file of the host.
-- AIA 1.0, IOMMU Support for MSIs to Virtual Machines.
use Rattle.std.specs.Prelude.{◌≡◌, ℕ, ◌+◌, ◌-◌, ◌*◌, ◌^◌, ◌&&◌, nat_eq, nat_lt, min, if◌then◌else◌, Option, Some, None}
use Rattle.std.specs.Int.{is_in_range}
use Rattle.aia_word.specs.Sets.{least_of}
use Rattle.aia_regs.specs.declared.address_map.TheConstants.{PAGE}
use Rattle.aia_regs.specs.declared.limits.TheConstants.{IDENTITIES, VCPUS}
use Rattle.aia_regs.specs.AddressMap.{slot_address}
use Rattle.aia_regs.specs.Request.{requested}
use Rattle.aia_file.specs.FileState.{shown}
use Rattle.aia_file.specs.InterruptFile.{SameFile, landed}
use Rattle.aia_file.specs.declared.spot.Spot.{Spot}
use Rattle.aia_file.specs.declared.spot.Spot.TheVariants.{MachineFile, SupervisorFile, GuestFile, Nowhere}
use Rattle.aia_file.specs.Map.{spot_at}
use Rattle.aia_file.specs.Imsic.{ImsicState, file_at, with_file}
use Rattle.aia_file.specs.declared.stored.Stored.{Stored}
use Rattle.aia_file.specs.declared.stored.Stored.TheVariants.{Notice}
use Rattle.aia_file.specs.Mrif.{mrif_in, stored}
use Rattle.aia_file.specs.Words.{words_after_store}
use Rattle.aia_entry.specs.declared.entry.Entry.{Entry}
use Rattle.aia_entry.specs.declared.entry.Entry.TheVariants.{Basic, Mrif}
use Rattle.aia_entry.specs.declared.table.Route.{Route}
use Rattle.aia_entry.specs.declared.table.Route.TheVariants.{To}
use Rattle.aia_vcpu.specs.declared.place.GuestPlace.{GuestPlace}
use Rattle.aia_vcpu.specs.Vms.{Vcpu, slot_of, notice_identity, notice_hart}
use Rattle.aia_fabric_values.specs.World.{World}

-- ---- which place a page or an address names

-- The file whose page has this number.
abbrev pub page_spot : ImsicState → ℕ → Spot
page_spot i page = spot_at i.harts i.guests (page * PAGE)

-- The slot of memory that begins at an address, None where none does.
abbrev pub slot_at : ℕ → Option ℕ
slot_at addr = least_of (λ q. nat_eq (slot_address q) addr) 0 VCPUS

-- ---- files

-- A 32-bit store lands in the file at a place; all other files stay.
pub record LandsIn (i j : ImsicState) (spot : Spot) (offset value : ℕ) : Type 0 where
  pub lands : SameFile (shown (file_at j spot)) (landed offset value (shown (file_at i spot)))
  pub others : j ≡ with_file i spot (file_at j spot)

-- A 32-bit store lands in the file at a place, and nothing but files changes.
pub record StoresIn (w u : World) (spot : Spot) (offset value : ℕ) : Type 0 where
  pub lands : LandsIn w.imsic u.imsic spot offset value
  pub rest : u ≡ record w { imsic = u.imsic }

-- A store that is led to a guest file lands there; one that is led to any other page, or nowhere,
-- is dropped. Profile.
abbrev pub StoresInGuestFile : World → World → Spot → ℕ → ℕ → Type 0
StoresInGuestFile w u (GuestFile hart file) offset value =
    StoresIn w u (GuestFile hart file) offset value
StoresInGuestFile w u spot offset value = u ≡ w

-- ---- notices

-- One notice more; the count stays at its last value.
abbrev pub counted : ℕ → ℕ
counted notices = min (notices + 1) (2 ^ 64 - 1)

-- A notice lands in a file as a store of its identity at offset 0, and is counted.
pub record Posts (w u : World) (spot : Spot) (identity : ℕ) : Type 0 where
  pub lands : LandsIn w.imsic u.imsic spot 0 identity
  pub count : u.notices ≡ counted w.notices
  pub rest : u ≡ record w { imsic = u.imsic; notices = u.notices }

-- A notice goes to a file of the host: to any other page it is dropped, and not counted. Profile.
abbrev pub NoticedAt : World → World → Spot → ℕ → Type 0
NoticedAt w u (MachineFile hart) identity = Posts w u (MachineFile hart) identity
NoticedAt w u (SupervisorFile hart) identity = Posts w u (SupervisorFile hart) identity
NoticedAt w u spot identity = u ≡ w

-- ---- slots

-- What became of a store to a slot says whether its notice is sent.
abbrev pub NoticedBy : Stored → World → World → Spot → ℕ → Type 0
NoticedBy Notice w u spot identity = NoticedAt w u spot identity
NoticedBy outcome w u spot identity = u ≡ w

-- The memory-resident interrupt file in a slot has taken a store.
abbrev pub with_store : World → ℕ → ℕ → ℕ → World
with_store w q offset value =
    record w { memory = words_after_store w.memory q (requested IDENTITIES offset value) }

-- A store to a slot, whose notices go to a page with an identity: the slot takes it, then a notice
-- is sent where one is due. To no slot it is dropped.
abbrev pub StoresInSlot : World → World → Option ℕ → Spot → ℕ → ℕ → ℕ → Type 0
StoresInSlot w u None spot identity offset value = u ≡ w
StoresInSlot w u (Some q) spot identity offset value =
    NoticedBy (stored (mrif_in w.memory q) (requested IDENTITIES offset value))
    (with_store w q offset value) u spot identity

-- ---- where an entry leads

-- A store of a device goes where an entry leads: to a page, to a slot, or nowhere.
abbrev pub ReachesBy : Entry → World → World → ℕ → ℕ → Type 0
ReachesBy (Basic page) w u offset value =
    StoresInGuestFile w u (page_spot w.imsic page) offset value
ReachesBy (Mrif addr page identity) w u offset value =
    StoresInSlot w u (slot_at addr) (page_spot w.imsic page) identity offset value
ReachesBy entry w u offset value = u ≡ w

-- A store of a device at an offset of a page goes along a route, and all else stays.
abbrev pub Reaches : Route → World → World → ℕ → ℕ → Type 0
Reaches (To entry) w u offset value = ReachesBy entry w u offset value
Reaches route w u offset value = u ≡ w

-- ---- where a record leads

-- The guest file that a record names; Nowhere if it is not there, which a record may name too.
abbrev pub named_spot : ImsicState → GuestPlace → Spot
named_spot i p =
    if nat_lt p.hart i.harts && is_in_range 1 i.guests p.file
    then GuestFile p.hart p.file
    else Nowhere

-- A store of a virtual hart for the file of virtual hart g goes to the guest file that g's record
-- in force names, at the register of its page that takes stores; where none is named it goes to g's
-- slot of memory, with its notice. Profile: where no file is mapped, the hypervisor does the store.
-- The hypervisor extension 1.0.
abbrev pub ReachesByRecord : Option GuestPlace → World → World → Vcpu → ℕ → Type 0
ReachesByRecord (Some p) w u g value = StoresInGuestFile w u (named_spot w.imsic p) 0 value
ReachesByRecord None w u g value =
    StoresInSlot w u (Some (slot_of w.vms g)) (SupervisorFile (notice_hart w.vms g))
    (notice_identity w.vms g) 0 value
