-- A plan is rehearsed, and others do what they like between its steps: how that may begin, and what
-- an accepted plan comes to.
use Rattle.std.specs.Prelude.{◌≡◌, ◌≢◌, ℕ, ◌/◌, ◌%◌, ◌<◌, Bool, false, ◌&&◌, ◌||◌, nat_eq, is_some, List, [], ◌∷◌, All, slice_get, Option, Some, None}
use Rattle.std.specs.List.{list_any}
use Rattle.aia_word.specs.Sets.{has_bit}
use Rattle.aia_regs.specs.declared.address_map.TheConstants.{PAGE}
use Rattle.aia_vcpu.specs.Vms.{vcpu_of, is_vcpu}
use Rattle.aia_vcpu_places.specs.Places.{leads_to, entry_word, second_word}
use Rattle.aia_fabric_values.specs.declared.flying.Flying.{Flying}
use Rattle.aia_fabric_values.specs.World.{World, flight_of}
use Rattle.aia_fabric_values.specs.Whole.{IsWhole}
use Rattle.aia_move_values.specs.Move.{width}
use Rattle.aia_plan.specs.Plan.{WrittenPlan}
use Rattle.aia_plan.specs.declared.step.Step.TheVariants as steps
use Rattle.aia_plan.specs.Transit.{TransitSide, Flight, Transit, is_identity}
use Rattle.aia_plan.specs.Transit.TransitSide.{Old, New}
use Rattle.aia_rehearsal.specs.Rehearsed.{Passage, Rehearsed, mover_of, on, at, names_on, AreTwo, IsOf, empty_hand}
use Rattle.aia_rehearsal.specs.Stands.{sets_at, routes_of, leads, side_of, identity_asked, flights_in}
use Rattle.aia_rehearsal.specs.Events.{RehearsedEvent, Happens, IsAlone, is_for_moved}
use Rattle.aia_rehearsal.specs.Events.RehearsedEvent.{Steps, DeviceStores, PeerStores, StoreLands}

-- ---- a run

-- Events come one after the other; before each of them the fabric is whole, as all fabrics are.
abbrev pub Runs : List RehearsedEvent → World → Rehearsed → World → Rehearsed → Type 0
Runs [] w r u t = (u ≡ w) × (t ≡ r)
Runs (event ∷ later) w r u t = (x : World) × (y : Rehearsed) × IsWhole w
    × Happens event w r x y × Runs later x y u t

-- The steps of the plan among them.
abbrev pub steps_in : List RehearsedEvent → WrittenPlan
steps_in [] = []
steps_in (Steps step ∷ later) = step ∷ steps_in later
steps_in (event ∷ later) = steps_in later

-- ---- what is asked for

-- Whether a store in flight that leads to one of the places asks for identity i.
abbrev pub lands_for : World → Passage → ℕ → Option Flying → Bool
lands_for w p i None = false
lands_for w p i (Some store) =
    is_some (side_of w.imsic p store.entry) && nat_eq (identity_asked store.offset store.value) i

-- Whether an event asks for identity i at the virtual hart that is moved, so that it is to be
-- pending: a store of a device or of a peer, or one that lands, by itself or in a fence.
abbrev pub asks : RehearsedEvent → World → Passage → ℕ → Bool
asks (Steps steps.Fence) w p i =
    list_any (λ (f : Flight). nat_eq f.identity i)
    (flights_in w.imsic p (flight_of w p.who.found.vm))
asks (DeviceStores vm addr value) w p i =
    is_for_moved w p vm addr && nat_eq (identity_asked (addr % PAGE) value) i
asks (PeerStores vm to value) w p i =
    is_vcpu (vcpu_of vm to) (mover_of p) && nat_eq (identity_asked 0 value) i
asks (StoreLands vm k) w p i =
    nat_eq vm p.who.found.vm && lands_for w p i (slice_get (flight_of w vm) k)
asks event w p i = false

-- Whether one of the events of a run does.
abbrev pub asked_in : (events : List RehearsedEvent) (w : World) (r : Rehearsed) (u : World)
    (t : Rehearsed) → Runs events w r u t → ℕ → Bool
asked_in [] w r u t run i = false
asked_in (event ∷ later) w r u t (x, y, whole, happens, rest) i =
    asks event w r.passage i || asked_in later x y u t rest i

-- ---- how it begins, and how it ends

-- All routes, as they are written and in force, lead to a side, and the entry says where notices
-- go.
pub record LeadsTo (w : World) (p : Passage) (side : TransitSide) : Type 0 where
  pub word0 : (routes_of w (mover_of p)).word0 ≡ entry_word p.who.found.slot (names_on side p)
  pub word1 : (routes_of w (mover_of p)).word1 ≡ second_word p.who.found.slot p.who.found.notice
  pub in_force : (routes_of w (mover_of p)).in_force
      ≡ leads_to p.who.found.slot p.who.found.notice (names_on side p)
  pub record_written : (routes_of w (mover_of p)).stage.written ≡ names_on side p
  pub record_in_force : (routes_of w (mover_of p)).stage.in_force ≡ names_on side p

-- No store in flight of a VM leads to a side.
abbrev pub NoneLeads : World → Passage → TransitSide → ℕ → Type 0
NoneLeads w p side vm = All (λ (store : Flying).
    leads w.imsic p.who.found.slot (on side p) store.entry ≡ false) (flight_of w vm)

-- The state for which a fabric stands whose routes all lead to one side.
abbrev pub state_at : TransitSide → World → Rehearsed → Transit
state_at side w r = record {
  old_pending = (sets_at w (at Old r.passage)).pending;
  old_enabled = (sets_at w (at Old r.passage)).enabled;
  new_pending = (sets_at w (at New r.passage)).pending;
  new_enabled = (sets_at w (at New r.passage)).enabled;
  carried_pending = has_bit r.hand.pending;
  carried_enables = has_bit r.hand.enables;
  entry_written = side;
  entry_in_force = side;
  record_written = side;
  record_in_force = side;
  flights = flights_in w.imsic r.passage (flight_of w r.passage.who.found.vm);
  due = λ i. is_identity i && (sets_at w (at Old r.passage)).pending i;
}

-- A move may begin: all leads to the old place, the new one is empty, nothing is carried, and both
-- places are its own, also of what is in flight.
pub record IsBegun (w : World) (r : Rehearsed) : Type 0 where
  pub of : IsOf w r.passage
  pub two : AreTwo r.passage.old r.passage.new
  pub alone : IsAlone w r.passage
  pub routes : LeadsTo w r.passage Old
  pub flights : (vm : ℕ) → NoneLeads w r.passage New vm
  pub others : (vm : ℕ) → vm ≢ r.passage.who.found.vm → NoneLeads w r.passage Old vm
  pub new_pending : (i : ℕ) → i / 64 < width w
      → (sets_at w (at New r.passage)).pending i ≡ false
  pub new_enabled : (i : ℕ) → i / 64 < width w
      → (sets_at w (at New r.passage)).enabled i ≡ false
  pub hand : r.hand ≡ empty_hand

-- It has ended well: pending in the new place is just what was pending in the old one as it began
-- or was asked for since, enabled is just what was; the old place is empty, and nothing leads to
-- it; and no store in flight of another VM leads to the new one.
pub record IsOver (w : World) (r : Rehearsed) (asked_for : ℕ → Bool) (u : World) : Type 0 where
  pub pending : (i : ℕ) → i / 64 < width w → (sets_at u (at New r.passage)).pending i
      ≡ (is_identity i && ((sets_at w (at Old r.passage)).pending i || asked_for i))
  pub enabled : (i : ℕ) → i / 64 < width w → (sets_at u (at New r.passage)).enabled i
      ≡ (is_identity i && (sets_at w (at Old r.passage)).enabled i)
  pub old_pending : (i : ℕ) → i / 64 < width w
      → (sets_at u (at Old r.passage)).pending i ≡ false
  pub old_enabled : (i : ℕ) → i / 64 < width w
      → (sets_at u (at Old r.passage)).enabled i ≡ false
  pub routes : LeadsTo u r.passage New
  pub flights : (vm : ℕ) → NoneLeads u r.passage Old vm
  pub others : (vm : ℕ) → vm ≢ r.passage.who.found.vm → NoneLeads u r.passage New vm
