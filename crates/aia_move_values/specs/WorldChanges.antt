-- What may happen to a world beside the steps of a virtual hart's own move, and what is known then
-- of a virtual hart at rest.
use Rattle.std.specs.Prelude.{◌≡◌, ◌≢◌, ℕ, ◌%◌, ◌≤◌, ◌<◌, Bool, true, false, remove, slice_index_or, Option, Some, None}
use Rattle.aia_regs.specs.declared.limits.TheConstants.{VCPUS}
use Rattle.aia_regs.specs.declared.address_map.TheConstants.{PAGE}
use Rattle.aia_file.specs.InterruptFile.{InterruptFile}
use Rattle.aia_file.specs.declared.spot.Spot.{Spot}
use Rattle.aia_file.specs.Imsic.{IsThere, file_at, with_file}
use Rattle.aia_entry.specs.Tables.{table_of, route_of}
use Rattle.aia_vcpu.specs.declared.place.GuestPlace.{GuestPlace}
use Rattle.aia_vcpu.specs.declared.vm.Vm.{Vm}
use Rattle.aia_vcpu.specs.Vms.{Vcpu, is_vcpu, is_vcpu_in, vcpus_in}
use Rattle.aia_vcpu.specs.Home.{holds, is_moving}
use Rattle.aia_vcpu.specs.Routes.{origin}
use Rattle.aia_vcpu.specs.Aims.{pass_reaches}
use Rattle.aia_vcpu_places.specs.Holds.{Holds, Hand, IsWithin}
use Rattle.aia_vcpu_places.specs.Stores.{AreApart}
use Rattle.aia_fabric_values.specs.World.{World, flight_of, stage_of, no_stage}
use Rattle.aia_fabric_values.specs.Whole.{IsWhole}
use Rattle.aia_fabric_values.specs.Making.{MakesVm}
use Rattle.aia_fabric_values.specs.Changes.{spot_of, with_fence}
use Rattle.aia_fabric_values.specs.Flights.{Sends, Lands, Fences, with_flight}
use Rattle.aia_fabric_values.specs.SlotAccess.{DoneInSlot}
use Rattle.aia_fabric_values.specs.Stores.{StoresIn, Reaches, ReachesByRecord}
use Rattle.aia_move_values.specs.Views.{places_of}
use Rattle.aia_move_values.specs.Move.{Moving, mover, width, MoveFits, MakesNext}
use Rattle.aia_move_values.specs.PlanState.{PlanState, moving_of}
use Rattle.aia_move_values.specs.Landings.{LandsFirst}
use Rattle.aia_move_values.specs.Targets.{TargetMap, pass_count}
use Rattle.aia_move_values.specs.Knows.{Knows}
use Rattle.aia_move_values.specs.Ways.{led_by_entry, led_by_route, led_by_record, leads_here, KnowsWays, KnowsTargets, landed_if, landed_flight, landed_before, reach_fetched}

-- ---- virtual harts that are not there yet

-- No record names a file but those of the virtual harts that are there.
abbrev pub OthersNameNothing : World → Type 0
OthersNameNothing w =
    (q : ℕ) → vcpus_in w.vms ≤ q → slice_index_or w.stages q no_stage ≡ no_stage

-- ---- what happens

-- A device or a peer stores; a store is sent, lands, or is taken out of those in flight; an MSI
-- lands in a guest file, or the hypervisor gives it on to a slot; an entry is read again, or
-- fenced; something is done about a slot as a file, or about a file; a move makes its next step,
-- its last one too; a VM is made, where no record names a file but those of the virtual harts that
-- were there.
pub data WorldChange (w u : World) : Type 0 where
  DeviceStores : (v addr value : ℕ)
      → Reaches (route_of (table_of w.tables v) addr) w u (addr % PAGE) value → WorldChange w u
  PeerStores : (g : Vcpu) (value : ℕ) → is_vcpu_in w.vms g ≡ true
      → ReachesByRecord (stage_of w g).in_force w u g value → WorldChange w u
  StoreIsSent : (v addr value : ℕ)
      → Sends (route_of (table_of w.tables v) addr) w u v (addr % PAGE) value → WorldChange w u
  StoreLands : (v k : ℕ) → Lands w u v k → WorldChange w u
  StoreIsTaken : (v k : ℕ) → u ≡ with_flight w v (remove (flight_of w v) k) → WorldChange w u
  MsiLands : (p : GuestPlace) (offset value : ℕ) → IsThere w.imsic (spot_of p)
      → StoresIn w u (spot_of p) offset value → WorldChange w u
  MsiIsRelayed : (g : Vcpu) (value : ℕ) → is_vcpu_in w.vms g ≡ true
      → ReachesByRecord None w u g value → WorldChange w u
  EntryIsRead : (g : Vcpu) → is_vcpu_in w.vms g ≡ true → u ≡ with_fence w g.vm g.vcpu
      → WorldChange w u
  EntryIsFenced : (g : Vcpu) → is_vcpu_in w.vms g ≡ true → Fences w u g.vm g.vcpu → WorldChange w u
  SlotIsReached : (q threshold : ℕ) (deed : InterruptFile → InterruptFile) → q < VCPUS
      → DoneInSlot w u q threshold deed → WorldChange w u
  FileIsReached : (spot : Spot) → IsThere w.imsic spot
      → u ≡ record w {
        imsic = with_file w.imsic spot (file_at u.imsic spot);
        notices = u.notices;
      } → WorldChange w u
  MoveSteps : (other : PlanState) (led : Option GuestPlace) (theirs : InterruptFile) (seen : Bool)
      (landed : World) (hand : Hand) → AreApart (moving_of other).home
      → IsWithin w.n (width w) theirs → Knows w other led theirs seen
      → LandsFirst w (moving_of other) landed → MakesNext landed (moving_of other) u hand
      → WorldChange w u
  VmIsMade : (vm : Vm) → IsWhole u → MakesVm w u vm → OthersNameNothing w → WorldChange w u

-- ---- at rest

-- What is passed to a virtual hart comes to a place: while it is moved one of its passed sources is
-- aimed there by now.
pub record IsAimedAt (m : Moving) (place : Option GuestPlace) : Type 0 where
  pub pass : ℕ
  pub passed : is_moving m.home ≡ true → pass < pass_count m.who
  pub reaches : pass_reaches pass m.home ≡ place

-- What is known of a virtual hart that is not moved: its places hold an interrupt file, the ways
-- that lead to them are its own, and what is passed to it is aimed there.
pub record KnowsAtRest (w : World) (map : TargetMap) (m : Moving) (file : InterruptFile)
    : Type 0 where
  pub rests : is_moving m.home ≡ false
  pub fits : MoveFits w m
  pub holds : Holds (width w) m.who.found.slot m.who.found.notice (origin m.home)
      (places_of w (mover m) m.home) m.home m.hand file false
  pub ways : KnowsWays w m
  pub targets : KnowsTargets map m

-- What happens is none of its own doings: a slot or a file that is reached is not one of its
-- places, a move that steps is that of another virtual hart, and of other files. What is given on
-- to its slot, and what lands in its files while it is moved, comes where one of its passed sources
-- is aimed.
abbrev pub IsOfOthers : (w u : World) → Moving → WorldChange w u → Type 0
IsOfOthers w u m (SlotIsReached q threshold deed low done) = q ≢ m.who.found.slot
IsOfOthers w u m (FileIsReached spot there changed) =
    (p : GuestPlace) → holds p m.home ≡ true → spot ≢ spot_of p
IsOfOthers w u m (MsiLands p offset value there stores) =
    is_moving m.home ≡ true → holds p m.home ≡ true → IsAimedAt m (Some p)
IsOfOthers w u m (MsiIsRelayed g value there relayed) = g ≡ mover m → IsAimedAt m None
IsOfOthers w u m (MoveSteps other led theirs seen landed hand apart within knows first step) =
    (mover (moving_of other) ≢ mover m)
    × ((p : GuestPlace) → holds p m.home ≡ true → holds p (moving_of other).home ≡ false)
IsOfOthers w u m change = Unit {0}

-- What becomes of its interrupt file: what is led to one of its places lands there, all else leaves
-- it as it is.
abbrev pub file_after : (w u : World) → Moving → WorldChange w u → InterruptFile → InterruptFile
file_after w u m (DeviceStores v addr value reaches) file =
    landed_if (leads_here m (led_by_route w (route_of (table_of w.tables v) addr))) (addr % PAGE)
    value file
file_after w u m (PeerStores g value there reaches) file =
    landed_if (leads_here m (led_by_record w g (stage_of w g).in_force)) 0 value file
file_after w u m (StoreLands v k landing) file =
    landed_if (leads_here m (led_by_entry w landing.store.entry)) landing.store.offset
    landing.store.value file
file_after w u m (MsiLands p offset value there stores) file =
    landed_if (holds p m.home) offset value file
file_after w u m (MsiIsRelayed g value there relayed) file =
    landed_if (is_vcpu g (mover m)) 0 value file
file_after w u m (EntryIsFenced g there fences) file = landed_flight w m (flight_of w g.vm) file
file_after w u m (MoveSteps other led theirs seen landed hand apart within knows first step)
    file =
    landed_before w (moving_of other) m file
file_after w u m change file = file

-- What becomes of the place to which its entry in force leads: where an entry is read again that is
-- its own, its words say it.
abbrev pub reach_after : (w u : World) → Moving → WorldChange w u → Option GuestPlace
    → Option GuestPlace
reach_after w u m (EntryIsRead g there read) reach = reach_fetched (is_vcpu (mover m) g) m reach
reach_after w u m (EntryIsFenced g there fences) reach =
    reach_fetched (is_vcpu (mover m) g) m reach
reach_after w u m change reach = reach

-- ---- a guest file that nobody has

-- What happens is no step of a move that holds a guest file.
abbrev pub IsElsewhere : (w u : World) → GuestPlace → WorldChange w u → Type 0
IsElsewhere w u p (MoveSteps other led theirs seen landed hand apart within knows first step) =
    holds p (moving_of other).home ≡ false
IsElsewhere w u p change = Unit {0}

-- Nor does an MSI of a passed source land in it, and it is not the file that is reached.
abbrev pub IsUntouched : (w u : World) → GuestPlace → WorldChange w u → Type 0
IsUntouched w u p (MsiLands q offset value there stores) = q ≢ p
IsUntouched w u p (FileIsReached spot there changed) = spot ≢ spot_of p
IsUntouched w u p change = IsElsewhere w u p change
