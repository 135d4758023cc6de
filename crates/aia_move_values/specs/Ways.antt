-- The ways by which stores come to a virtual hart that is moved: entries, G-stage records, stores
-- in flight, and the targets of passed sources; where each leads, and what a plan knows of them.
use Rattle.std.specs.Prelude.{◌≡◌, ◌≢◌, ℕ, ◌+◌, ◌<◌, Bool, true, false, nat_eq, if◌then◌else◌, List, [], ◌∷◌, slice_get, slice_index, Option, Some, None}
use Rattle.std.specs.Option.{option_map}
use Rattle.aia_regs.specs.Top.{hart_of, guest_of}
use Rattle.aia_file.specs.InterruptFile.{InterruptFile, landed}
use Rattle.aia_file.specs.declared.spot.Spot.{Spot}
use Rattle.aia_file.specs.declared.spot.Spot.TheVariants.{GuestFile}
use Rattle.aia_entry.specs.declared.entry.Entry.{Entry}
use Rattle.aia_entry.specs.declared.entry.Entry.TheVariants.{Basic, Mrif}
use Rattle.aia_entry.specs.declared.table.Route.{Route}
use Rattle.aia_entry.specs.declared.table.Route.TheVariants.{To}
use Rattle.aia_entry.specs.Format.{decoded}
use Rattle.aia_entry.specs.Tables.{table_of, entry_in_force}
use Rattle.aia_vcpu.specs.declared.place.GuestPlace.{GuestPlace}
use Rattle.aia_vcpu.specs.Vms.{Vcpu, is_vcpu_in, slot_of}
use Rattle.aia_vcpu.specs.Home.{holds, ended}
use Rattle.aia_vcpu.specs.Phases.{Phase}
use Rattle.aia_vcpu.specs.Phases.Phase.{DrainPhase, EnablePhase, LookPhase, LastPhase}
use Rattle.aia_vcpu.specs.Routes.{MayReach, is_at_fence, entry_names}
use Rattle.aia_vcpu.specs.Aims.{pass_reaches, target_to, AreAimed}
use Rattle.aia_vcpu_places.specs.Places.{leads_to}
use Rattle.aia_vcpu_places.specs.Holds.{Hand}
use Rattle.aia_fabric_values.specs.declared.at.At.{At}
use Rattle.aia_fabric_values.specs.declared.at.At.TheVariants.{File, Slot}
use Rattle.aia_fabric_values.specs.declared.flying.Flying.{Flying}
use Rattle.aia_fabric_values.specs.World.{World, flight_of, stage_of}
use Rattle.aia_fabric_values.specs.Making.{entry_word_place}
use Rattle.aia_fabric_values.specs.Stores.{page_spot, slot_at, named_spot}
use Rattle.aia_move_values.specs.Move.{Moving, mover, old_at}
use Rattle.aia_move_values.specs.PlanState.{PlanState, moving_of}
use Rattle.aia_move_values.specs.Targets.{TargetMap, ArePasses, pass_count, pass_in}
use Rattle.aia_move_values.specs.Knows.{Knows}

-- ---- where each way leads

-- A guest file, where a page or a record names one.
abbrev pub guest_at : Spot → Option At
guest_at (GuestFile hart file) = Some (File (GuestFile hart file))
guest_at spot = None

-- The place to which an entry leads stores of devices: the guest file of its page, or the slot that
-- begins at its address; None: they are dropped.
abbrev pub led_by_entry : World → Entry → Option At
led_by_entry w (Basic page) = guest_at (page_spot w.imsic page)
led_by_entry w (Mrif addr page identity) = option_map Slot (slot_at addr)
led_by_entry w entry = None

-- The same of a route.
abbrev pub led_by_route : World → Route → Option At
led_by_route w (To entry) = led_by_entry w entry
led_by_route w route = None

-- The place to which a record leads the stores of peers for a virtual hart: the guest file that it
-- names, or, where it names none, the slot of that virtual hart; None: they are dropped.
abbrev pub led_by_record : World → Vcpu → Option GuestPlace → Option At
led_by_record w g None = Some (Slot (slot_of w.vms g))
led_by_record w g (Some p) = guest_at (named_spot w.imsic p)

-- The place to which the MSIs of a source come that is passed to the virtual hart of a slot, by its
-- target: the guest file of its hart index and its guest index; or, where the guest index is 0, the
-- slot, to which the hypervisor gives on what comes to the notice hart.
-- AIA 1.0, APLIC, "Interrupt forwarding by MSIs". Profile: passes.
abbrev pub led_by_target : ℕ → ℕ → At
led_by_target slot target =
    if nat_eq (guest_of target) 0
    then Slot slot
    else File (GuestFile (hart_of target) (guest_of target))

-- ---- the routes of a virtual hart

-- Its entry as it is in force; and as its two words in memory say it.
abbrev pub entry_of : World → Vcpu → Entry
entry_of w g = entry_in_force (table_of w.tables g.vm) g.vcpu

abbrev pub written_of : World → Vcpu → Entry
written_of w g = decoded (slice_index w.memory (entry_word_place g.vm g.vcpu))
    (slice_index w.memory (entry_word_place g.vm g.vcpu + 1))

-- ---- the places of a move

-- Whether a place is one of those of a move: a guest file that the move holds, or the slot of the
-- virtual hart that is moved.
abbrev pub is_its_place : Moving → At → Bool
is_its_place m (File (GuestFile hart file)) =
    holds (record { hart = hart; file = file }) m.home
is_its_place m (File spot) = false
is_its_place m (Slot q) = nat_eq q m.who.found.slot

-- Whether a way leads to one of them.
abbrev pub leads_here : Moving → Option At → Bool
leads_here m None = false
leads_here m (Some at) = is_its_place m at

-- ---- what a plan knows of the ways

-- A store in flight of a VM is one for the virtual hart that is moved: it is of that one's VM, and
-- its entry led it to a place to which the entry of that one may lead.
pub record IsItsFlight (m : Moving) (v : ℕ) (s : Flying) : Type 0 where
  pub vm : v ≡ m.who.found.vm
  pub place : Option GuestPlace
  pub entry : s.entry ≡ leads_to m.who.found.slot m.who.found.notice place
  pub may : MayReach m.home place

-- Of all routes, in force and as they are written, only its own lead to one of its places; and of
-- all stores in flight only those for its virtual hart.
pub record KnowsWays (w : World) (m : Moving) : Type 0 where
  pub entries : (g : Vcpu) → leads_here m (led_by_entry w (entry_of w g)) ≡ true → g ≡ mover m
  pub written : (g : Vcpu) → is_vcpu_in w.vms g ≡ true
      → leads_here m (led_by_entry w (written_of w g)) ≡ true → g ≡ mover m
  pub records : (g : Vcpu) → is_vcpu_in w.vms g ≡ true
      → leads_here m (led_by_record w g (stage_of w g).in_force) ≡ true → g ≡ mover m
  pub named : (g : Vcpu) → is_vcpu_in w.vms g ≡ true
      → leads_here m (led_by_record w g (stage_of w g).written) ≡ true → g ≡ mover m
  pub flying : (v k : ℕ) (s : Flying) → slice_get (flight_of w v) k ≡ Some s
      → leads_here m (led_by_entry w s.entry) ≡ true → IsItsFlight m v s

-- The sources that are passed to the virtual hart are ready, no two of them are one, and each is
-- aimed where its pass leads as the move has come.
pub record KnowsTargets (map : TargetMap) (m : Moving) : Type 0 where
  pub passes : ArePasses m.who
  pub come : AreAimed (pass_count m.who) m.home
  pub once : (r s : ℕ) → r < pass_count m.who → s < pass_count m.who
      → (pass_in m.who r).source ≡ (pass_in m.who s).source → r ≡ s
  pub ready : (r : ℕ) → r < pass_count m.who
      → map.ready (pass_in m.who r).source ≡ true
  pub aimed : (r : ℕ) → r < pass_count m.who → map.target (pass_in m.who r).source
      ≡ target_to m.who.found.notice (pass_in m.who r).number (pass_in m.who r).identity
      (pass_reaches r m.home)

-- All that a plan knows: of the places of its virtual hart, of the ways that lead to them, and of
-- the targets of what is passed.
pub record KnowsAll (w : World) (map : TargetMap) (plan : PlanState) (reach : Option GuestPlace)
    (file : InterruptFile) (saw : Bool) : Type 0 where
  pub places : Knows w plan reach file saw
  pub ways : KnowsWays w (moving_of plan)
  pub targets : KnowsTargets map (moving_of plan)

-- ---- what stores make of the interrupt file

-- A store lands in it where it is led to one of its places, and elsewhere it stays.
abbrev pub landed_if : Bool → ℕ → ℕ → InterruptFile → InterruptFile
landed_if here offset value file = if here then landed offset value file else file

-- Stores in flight land, one after the other.
abbrev pub landed_flight : World → Moving → List Flying → InterruptFile → InterruptFile
landed_flight w m [] file = file
landed_flight w m (s ∷ later) file = landed_flight w m later
    (landed_if (leads_here m (led_by_entry w s.entry)) s.offset s.value file)

-- Those land that do before a step of another move: all of its VM at its fence, none elsewhere.
abbrev pub landed_before : World → Moving → Moving → InterruptFile → InterruptFile
landed_before w other m file =
    if is_at_fence other.home
    then landed_flight w m (flight_of w other.who.found.vm) file
    else file

-- Where the entry in force of the virtual hart that is moved leads, once an entry was read again:
-- where its own words say, if it is its own.
abbrev pub reach_fetched : Bool → Moving → Option GuestPlace → Option GuestPlace
reach_fetched own m was = if own then entry_names m.home else was

-- ---- the old place

-- Whether a plan is past its aims: it carries the pending set, or has.
abbrev pub is_past_aims : Option Phase → Bool
is_past_aims (Some DrainPhase) = true
is_past_aims (Some EnablePhase) = true
is_past_aims (Some LookPhase) = true
is_past_aims (Some LastPhase) = true
is_past_aims phase = false

-- Nothing leads stores to a place: no route of anybody, in force or as it is written, and no store
-- in flight, of whatever VM.
pub record NothingLeadsTo (w : World) (at : At) : Type 0 where
  pub entries : (g : Vcpu) → led_by_entry w (entry_of w g) ≢ Some at
  pub written : (g : Vcpu) → is_vcpu_in w.vms g ≡ true
      → led_by_entry w (written_of w g) ≢ Some at
  pub records : (g : Vcpu) → is_vcpu_in w.vms g ≡ true
      → led_by_record w g (stage_of w g).in_force ≢ Some at
  pub named : (g : Vcpu) → is_vcpu_in w.vms g ≡ true
      → led_by_record w g (stage_of w g).written ≢ Some at
  pub flights : (v k : ℕ) (s : Flying) → slice_get (flight_of w v) k ≡ Some s
      → led_by_entry w s.entry ≢ Some at

-- Nothing leads to the old place of a move, and no target of a source that is passed to its virtual
-- hart does.
pub record OldPlaceIsShut (w : World) (map : TargetMap) (m : Moving) : Type 0 where
  pub ways : NothingLeadsTo w (old_at m)
  pub targets : (r : ℕ) → r < pass_count m.who
      → led_by_target m.who.found.slot (map.target (pass_in m.who r).source) ≢ old_at m

-- What is known once a move has ended, with this in its hand: nothing leads to the place that it
-- left, and the ways and the targets of its virtual hart, which is at rest, are known as before.
pub record AtItsEnd (w : World) (map : TargetMap) (m : Moving) (hand : Hand) : Type 0 where
  pub shut : OldPlaceIsShut w map m
  pub ways : KnowsWays w (record m { home = ended m.home; hand = hand })
  pub targets : KnowsTargets map (record m { home = ended m.home; hand = hand })
