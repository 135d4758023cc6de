-- Stores of devices that are in flight: each was sent where the entry in force led, and lands
-- there. Profile. AIA 1.0, IOMMU Support for MSIs to Virtual Machines.
use Rattle.std.specs.Prelude.{◌≡◌, ℕ, zero, suc, List, [], ◌∷◌, ◌++◌, length, remove, slice_get, slice_set, Some}
use Rattle.aia_entry.specs.declared.table.Route.{Route}
use Rattle.aia_entry.specs.declared.table.Route.TheVariants.{To}
use Rattle.aia_fabric_values.specs.declared.flying.Flying.{Flying}
use Rattle.aia_fabric_values.specs.World.{World, flight_of}
use Rattle.aia_fabric_values.specs.Stores.{ReachesBy}
use Rattle.aia_fabric_values.specs.Changes.{with_fence}
use Rattle.aia_fabric_values.specs.Whole.{IsWhole}

-- The world with other stores in flight of a VM.
abbrev pub with_flight : World → ℕ → List Flying → World
with_flight w vm stores = record w { flights = slice_set w.flights vm stores }

-- A store that an entry leads to a place is in flight from now on, the newest of its VM. One that
-- goes nowhere is not kept.
abbrev pub Sends : Route → World → World → ℕ → ℕ → ℕ → Type 0
Sends (To entry) w u vm offset value = u ≡ with_flight w vm (flight_of w vm
    ++ record { entry = entry; offset = offset; value = value } ∷ [])
Sends route w u vm offset value = u ≡ w

-- The k-th store in flight of a VM lands, where the entry led it as it was sent, and is in flight
-- no more.
pub record Lands (w u : World) (vm k : ℕ) : Type 0 where
  pub store : Flying
  pub is : slice_get (flight_of w vm) k ≡ Some store
  pub stored : World
  pub reaches : ReachesBy store.entry w stored store.offset store.value
  pub taken : u ≡ with_flight stored vm (remove (flight_of stored vm) k)

-- So many stores in flight of a VM land, one after another, each time the oldest that is left; the
-- world is whole before each.
abbrev pub LandsOldest : ℕ → World → World → ℕ → Type 0
LandsOldest zero w u vm = u ≡ w
LandsOldest (suc count) w u vm =
    (mid : World) × LandsOldest count w mid vm × IsWhole mid × Lands mid u vm 0

-- All of them do.
abbrev pub LandsAll : World → World → ℕ → Type 0
LandsAll w u vm = LandsOldest (length (flight_of w vm)) w u vm

-- The fence of an entry: all stores in flight of the VM land, the oldest first; then the entry is
-- put in force, as its words say it. So no store that the IOMMU led by an older entry comes later.
pub record Fences (w u : World) (vm file : ℕ) : Type 0 where
  pub landed : World
  pub lands : LandsAll w landed vm
  pub whole : IsWhole landed
  pub fenced : u ≡ with_fence landed vm file
