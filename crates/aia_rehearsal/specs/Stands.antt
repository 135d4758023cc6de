-- When a rehearsal and its fabric stand for a state of the machine on which plans were proved safe:
-- the sets of both places, what is carried, the routes and the stores in flight are that state's.
-- Nothing is said of what happened before.
use Rattle.std.specs.Prelude.{◌≡◌, ◌≢◌, ℕ, ◌+◌, ◌/◌, ◌<◌, Bool, false, if◌then◌else◌, List, [], ◌∷◌, Option, Some, None, unwrap_or, slice_index}
use Rattle.aia_word.specs.Sets.{has_bit}
use Rattle.aia_regs.specs.declared.limits.TheConstants.{IDENTITIES}
use Rattle.aia_regs.specs.BitUpdate.{names}
use Rattle.aia_regs.specs.Request.{requested}
use Rattle.aia_file.specs.FileState.{shown}
use Rattle.aia_file.specs.declared.spot.Spot.{Spot}
use Rattle.aia_file.specs.declared.spot.Spot.TheVariants.{GuestFile}
use Rattle.aia_file.specs.Imsic.{ImsicState, file_at}
use Rattle.aia_file.specs.Mrif.{mrif_in}
use Rattle.aia_entry.specs.declared.entry.Entry.{Entry}
use Rattle.aia_entry.specs.declared.entry.Entry.TheVariants.{Basic, Mrif}
use Rattle.aia_entry.specs.Tables.{table_of, entry_in_force}
use Rattle.aia_vcpu.specs.declared.place.GuestPlace.{GuestPlace}
use Rattle.aia_vcpu.specs.Home.{is_place}
use Rattle.aia_vcpu.specs.Vms.{Vcpu}
use Rattle.aia_vcpu_places.specs.Places.{TwoSets, of_file, of_slot, leads_to, entry_word, second_word}
use Rattle.aia_fabric_values.specs.declared.at.At.{At}
use Rattle.aia_fabric_values.specs.declared.at.At.TheVariants as ats
use Rattle.aia_fabric_values.specs.declared.flying.Flying.{Flying}
use Rattle.aia_fabric_values.specs.declared.stage.Stage.{Stage}
use Rattle.aia_fabric_values.specs.World.{World, flight_of, stage_of}
use Rattle.aia_fabric_values.specs.Making.{entry_word_place}
use Rattle.aia_fabric_values.specs.Stores.{page_spot, slot_at}
use Rattle.aia_move_values.specs.Move.{width}
use Rattle.aia_plan.specs.Transit.{TransitSide, Flight, Transit}
use Rattle.aia_plan.specs.Transit.TransitSide.{Old, New}
use Rattle.aia_rehearsal.specs.declared.place.Place as ends
use Rattle.aia_rehearsal.specs.declared.place.Place.TheVariants.{File, Slot}
use Rattle.aia_rehearsal.specs.Rehearsed.{Passage, Carried, Rehearsed, mover_of, at, names_on, AreTwo, IsOf}

-- ---- the sets

-- The two sets of a place.
abbrev pub sets_at : World → At → TwoSets
sets_at w (ats.File spot) = of_file (shown (file_at w.imsic spot))
sets_at w (ats.Slot q) = of_slot (mrif_in w.memory q)

-- The sets of an old and of a new place, so many words of them, and the words that are carried are
-- those of a state.
pub record SetsStand (words : ℕ) (old new : TwoSets) (hand : Carried) (z : Transit) : Type 0 where
  pub old_pending : (i : ℕ) → i / 64 < words → z.old_pending i ≡ old.pending i
  pub old_enabled : (i : ℕ) → i / 64 < words → z.old_enabled i ≡ old.enabled i
  pub new_pending : (i : ℕ) → i / 64 < words → z.new_pending i ≡ new.pending i
  pub new_enabled : (i : ℕ) → i / 64 < words → z.new_enabled i ≡ new.enabled i
  pub carried_pending : (bit : ℕ) → bit < 64 → z.carried_pending bit ≡ has_bit hand.pending bit
  pub carried_enables : (bit : ℕ) → bit < 64 → z.carried_enables bit ≡ has_bit hand.enables bit

-- ---- the routes

-- Both words of a virtual hart's entry as they are written, the entry in force, and its record.
pub record RoutesSeen : Type 0 where
  pub word0 : ℕ
  pub word1 : ℕ
  pub in_force : Entry
  pub stage : Stage

abbrev pub routes_of : World → Vcpu → RoutesSeen
routes_of w g = record {
  word0 = slice_index w.memory (entry_word_place g.vm g.vcpu);
  word1 = slice_index w.memory (entry_word_place g.vm g.vcpu + 1);
  in_force = entry_in_force (table_of w.tables g.vm) g.vcpu;
  stage = stage_of w g;
}

-- The entry and the record, as they are written and in force, lead where those of a state do; and
-- the entry says from the VM's making on where notices go.
pub record RoutesStand (p : Passage) (routes : RoutesSeen) (z : Transit) : Type 0 where
  pub entry_written : routes.word0 ≡ entry_word p.who.found.slot (names_on z.entry_written p)
  pub notice : routes.word1 ≡ second_word p.who.found.slot p.who.found.notice
  pub entry_in_force : routes.in_force
      ≡ leads_to p.who.found.slot p.who.found.notice (names_on z.entry_in_force p)
  pub record_written : routes.stage.written ≡ names_on z.record_written p
  pub record_in_force : routes.stage.in_force ≡ names_on z.record_in_force p

-- ---- the stores in flight

-- Whether a spot is that of a guest file.
abbrev pub is_file_at : GuestPlace → Spot → Bool
is_file_at p (GuestFile hart file) = is_place p (record { hart = hart; file = file })
is_file_at p spot = false

-- Whether an entry leads to a place: to a file by the number of its page, to a slot by its address.
abbrev pub leads : ImsicState → ℕ → ends.Place → Entry → Bool
leads i slot (File p) (Basic page) = is_file_at p (page_spot i page)
leads i slot Slot (Mrif addr page identity) = names (slot_at addr) slot
leads i slot place entry = false

-- On which side it leads to a place, if it leads to one of the two.
abbrev pub side_of : ImsicState → Passage → Entry → Option TransitSide
side_of i p entry =
    if leads i p.who.found.slot p.old entry then Some Old
    else (if leads i p.who.found.slot p.new entry then Some New
    else None)

-- The identity for which a store at an offset of a page asks; 0, which is none, where it asks for
-- none. It may be above those of the files, of which nothing is said.
abbrev pub identity_asked : ℕ → ℕ → ℕ
identity_asked offset value = unwrap_or (requested IDENTITIES offset value) 0

-- The stores in flight that lead to one of its places, in their order.
abbrev pub onto_flights : Option TransitSide → Flying → List Flight → List Flight
onto_flights None store later = later
onto_flights (Some side) store later =
    record { side = side; identity = identity_asked store.offset store.value } ∷ later

abbrev pub flights_in : ImsicState → Passage → List Flying → List Flight
flights_in i p [] = []
flights_in i p (store ∷ later) =
    onto_flights (side_of i p store.entry) store (flights_in i p later)

-- Those of its VM are a state's; and no store in flight of another VM leads to its places.
pub record FlightsStand (w : World) (p : Passage) (z : Transit) : Type 0 where
  pub own : z.flights ≡ flights_in w.imsic p (flight_of w p.who.found.vm)
  pub others : (vm : ℕ) → vm ≢ p.who.found.vm → flights_in w.imsic p (flight_of w vm) ≡ []

-- ---- all of it

-- All of the above: a rehearsal and its fabric stand for a state.
pub record StandsFor (w : World) (r : Rehearsed) (z : Transit) : Type 0 where
  pub of : IsOf w r.passage
  pub two : AreTwo r.passage.old r.passage.new
  pub sets : SetsStand (width w) (sets_at w (at Old r.passage)) (sets_at w (at New r.passage))
      r.hand z
  pub routes : RoutesStand r.passage (routes_of w (mover_of r.passage)) z
  pub flights : FlightsStand w r.passage z
