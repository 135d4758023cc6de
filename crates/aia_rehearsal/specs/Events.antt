-- What may happen to a rehearsal and its fabric: a step, or what others do between its steps; and
-- what it is on the machine on which plans were proved safe.
use Rattle.std.specs.Prelude.{◌≡◌, ◌≢◌, ℕ, ◌%◌, ◌<◌, Bool, true, ◌&&◌, nat_eq, if◌then◌else◌, List, [], ◌∷◌, length, take, slice_get, Option, Some, None}
use Rattle.aia_regs.specs.declared.address_map.TheConstants.{PAGE}
use Rattle.aia_entry.specs.Tables.{table_of, route_of}
use Rattle.aia_entry.specs.Translation.{is_msi_address, file_number}
use Rattle.aia_vcpu.specs.declared.place.GuestPlace.{GuestPlace}
use Rattle.aia_entry.specs.Format.{decoded}
use Rattle.aia_vcpu.specs.Vms.{Vcpu, vcpu_of, is_vcpu, is_vcpu_in}
use Rattle.aia_fabric_values.specs.declared.flying.Flying.{Flying}
use Rattle.aia_fabric_values.specs.World.{World, flight_of, stage_of}
use Rattle.aia_fabric_values.specs.Stores.{Reaches, ReachesByRecord}
use Rattle.aia_fabric_values.specs.Flights.{Sends, Lands}
use Rattle.aia_fabric_values.specs.Changes.{with_fence}
use Rattle.aia_move_values.specs.Move.{width}
use Rattle.aia_plan.specs.Plan.{IsInside}
use Rattle.aia_plan.specs.declared.step.Step.{Step}
use Rattle.aia_plan.specs.Transit.{TransitSide, Happening}
use Rattle.aia_plan.specs.Transit.{Happening as happenings}
use Rattle.aia_rehearsal.specs.Rehearsed.{Passage, Rehearsed, mover_of, names_on}
use Rattle.aia_rehearsal.specs.Steps.{Makes, after}
use Rattle.aia_rehearsal.specs.Stands.{routes_of, identity_asked, side_of, flights_in}

-- The rehearsal makes a step; a device of a VM stores a value at an address; a virtual hart of a VM
-- stores one for another; a device of a VM sends a store; the K-th store in flight of a VM lands,
-- counted from 0; the entry of a virtual hart is read again.
pub data RehearsedEvent : Type 0 where
  Steps : (step : Step) → RehearsedEvent
  DeviceStores : (vm addr value : ℕ) → RehearsedEvent
  PeerStores : (vm to value : ℕ) → RehearsedEvent
  DeviceSends : (vm addr value : ℕ) → RehearsedEvent
  StoreLands : (vm k : ℕ) → RehearsedEvent
  EntryRead : (vm file : ℕ) → RehearsedEvent

-- ---- what it does

-- What the calls of the fabric and of the rehearsal make of both.
abbrev pub Happens : RehearsedEvent → World → Rehearsed → World → Rehearsed → Type 0
Happens (Steps step) w r u t =
    IsInside (width w) step × Makes step r w u × (t ≡ after step r w)
Happens (DeviceStores vm addr value) w r u t = (vm < length w.vms)
    × Reaches (route_of (table_of w.tables vm) addr) w u (addr % PAGE) value × (t ≡ r)
Happens (PeerStores vm to value) w r u t = (is_vcpu_in w.vms (vcpu_of vm to) ≡ true)
    × ReachesByRecord (stage_of w (vcpu_of vm to)).in_force w u (vcpu_of vm to) value × (t ≡ r)
Happens (DeviceSends vm addr value) w r u t = (vm < length w.vms)
    × Sends (route_of (table_of w.tables vm) addr) w u vm (addr % PAGE) value × (t ≡ r)
Happens (StoreLands vm k) w r u t = (vm < length w.vms) × Lands w u vm k × (t ≡ r)
Happens (EntryRead vm file) w r u t =
    (is_vcpu_in w.vms (vcpu_of vm file) ≡ true) × (u ≡ with_fence w vm file) × (t ≡ r)

-- ---- whom it concerns

-- Whether a store of a device of a VM is for the virtual hart that is moved.
abbrev pub is_for_moved : World → Passage → ℕ → ℕ → Bool
is_for_moved w p vm addr =
    nat_eq vm p.who.found.vm && (is_msi_address (table_of w.tables vm).mask addr
    && nat_eq (file_number (table_of w.tables vm).mask addr) p.who.found.vcpu)

-- ---- what is not its own

-- A record names neither place.
abbrev pub NamesElsewhere : Passage → Option GuestPlace → Type 0
NamesElsewhere p named =
    (side : TransitSide) (a : GuestPlace) → names_on side p ≡ Some a → named ≢ Some a

-- Both places are its own: no entry of another virtual hart, in force or as it is written, leads to
-- one of them, and no record of another that is in force names one. What such a record says as it
-- is written is free: no event here puts it in force.
pub record IsAlone (w : World) (p : Passage) : Type 0 where
  pub in_force : (g : Vcpu) → g ≢ mover_of p → side_of w.imsic p (routes_of w g).in_force ≡ None
  pub written : (g : Vcpu) → is_vcpu_in w.vms g ≡ true → g ≢ mover_of p
      → side_of w.imsic p (decoded (routes_of w g).word0 (routes_of w g).word1) ≡ None
  pub records : (g : Vcpu) → is_vcpu_in w.vms g ≡ true → g ≢ mover_of p
      → NamesElsewhere p (routes_of w g).stage.in_force

-- ---- what it is on the machine of the proof

-- The K-th store in flight of the VM lands: where it leads to one of the two places, that is the
-- landing of a store by its number among those that do; else it is nothing.
abbrev pub landing_by : Option TransitSide → ℕ → List Happening
landing_by None k = []
landing_by (Some side) k = happenings.Lands k ∷ []

abbrev pub landing_seen : World → Passage → ℕ → Option Flying → List Happening
landing_seen w p k None = []
landing_seen w p k (Some store) = landing_by (side_of w.imsic p store.entry)
    (length (flights_in w.imsic p (take k (flight_of w p.who.found.vm))))

-- What is for the virtual hart that is moved is one happening; what is for others is none.
abbrev pub seen : RehearsedEvent → World → Passage → List Happening
seen (Steps step) w p = happenings.Does step ∷ []
seen (DeviceStores vm addr value) w p =
    if is_for_moved w p vm addr then happenings.Stores (identity_asked (addr % PAGE) value) ∷ []
    else []
seen (PeerStores vm to value) w p =
    if is_vcpu (vcpu_of vm to) (mover_of p) then happenings.PeerStores (identity_asked 0 value) ∷ []
    else []
seen (DeviceSends vm addr value) w p =
    if is_for_moved w p vm addr then happenings.Sends (identity_asked (addr % PAGE) value) ∷ []
    else []
seen (StoreLands vm k) w p =
    if nat_eq vm p.who.found.vm then landing_seen w p k (slice_get (flight_of w vm) k) else []
seen (EntryRead vm file) w p =
    if is_vcpu (vcpu_of vm file) (mover_of p) then happenings.Refetches ∷ [] else []
