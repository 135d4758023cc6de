-- A run of an accepted plan moves all: it is a run on the machine of the proof.
use Rattle.std.proofs.Common.{◌≡◌, ℕ, ◌+◌, ◌/◌, ◌%◌, Bool, true, false, ◌&&◌, ◌||◌, cond, nat_eq, List, [], ◌∷◌, ◌++◌, Option, Some, None, inl, inr, refl, sym, ap, ◌∙◌, subst}
use Rattle.std.specs.Prelude.{slice_get, is_some, length, take}
use Rattle.std.specs.List.{list_any}
use Rattle.std.proofs.lemmas.Bool.{cases_eq, ne_eqb}
use Rattle.aia_regs.specs.declared.address_map.TheConstants.{PAGE}
use Rattle.aia_vcpu.specs.Vms.{vcpu_of, is_vcpu}
use Rattle.aia_fabric_values.specs.declared.flying.Flying.{Flying}
use Rattle.aia_fabric_values.specs.World.{World, flight_of}
use Rattle.aia_fabric_values.specs.Whole.{IsWhole}
use Rattle.aia_move_values.specs.Move.{width}
use Rattle.aia_plan.specs.declared.step.Step.{Step}
use Rattle.aia_plan.specs.declared.step.Step.TheVariants as steps
use Rattle.aia_plan.specs.Transit.{TransitSide, Flight, Transit, Happening, is_identity, landed, all_landed, one_landed, stepped, happened, all_happened}
use Rattle.aia_plan.specs.Transit as transit
use Rattle.aia_plan.specs.Transit.TransitSide.{Old, New}
use Rattle.aia_plan.specs.Transit.{Happening as happenings}
use Rattle.aia_rehearsal.specs.Rehearsed.{Passage, Rehearsed, mover_of, IsOf}
use Rattle.aia_rehearsal.specs.Stands.{side_of, identity_asked, flights_in, StandsFor}
use Rattle.aia_rehearsal.specs.Events.{RehearsedEvent, Happens, IsAlone, is_for_moved, landing_by, landing_seen, seen}
use Rattle.aia_rehearsal.specs.Events.RehearsedEvent.{Steps, DeviceStores, PeerStores, DeviceSends, StoreLands, EntryRead}
use Rattle.aia_rehearsal.specs.Runs.{Runs, steps_in, lands_for, asks, asked_in}
use Rattle.aia_rehearsal.proofs.SameMachine.{event_same}
use Rattle.aia_rehearsal.proofs.Alone.{alone_stays}
use Rattle.aia_rehearsal.proofs.EventStands.{event_stands}
use Rattle.aia_rehearsal.proofs.FlightSteps.{removed_one, place_among}

-- ---- the run on the machine of the proof

abbrev pub all_seen : (events : List RehearsedEvent) (w : World) (r : Rehearsed) (u : World) (t : Rehearsed) → Runs events w r u t → List Happening
all_seen [] w r u t run = []
all_seen (event ∷ later) w r u t (x, y, whole, happens, rest) = seen event w r.passage ++ all_seen later x y u t rest

all_in_turn : (first later : List Happening) (z : Transit) → all_happened (first ++ later) z ≡ all_happened later (all_happened first z)
all_in_turn [] later z = refl
all_in_turn (x ∷ first) later z = all_in_turn first later (happened x z)

event_passage : (event : RehearsedEvent) (w : World) (r : Rehearsed) (u : World) (t : Rehearsed) → Happens event w r u t → t.passage ≡ r.passage
event_passage (Steps step) w r u t happens = ap (λ (x : Rehearsed). x.passage) happens.2
event_passage (DeviceStores vm addr value) w r u t happens = ap (λ (x : Rehearsed). x.passage) happens.2
event_passage (PeerStores vm to value) w r u t happens = ap (λ (x : Rehearsed). x.passage) happens.2
event_passage (DeviceSends vm addr value) w r u t happens = ap (λ (x : Rehearsed). x.passage) happens.2
event_passage (StoreLands vm k) w r u t happens = ap (λ (x : Rehearsed). x.passage) happens.2
event_passage (EntryRead vm file) w r u t happens = ap (λ (x : Rehearsed). x.passage) happens.2

-- both places are its own still
still_alone : (event : RehearsedEvent) (w u : World) (r t : Rehearsed) → IsWhole w → Happens event w r u t → IsAlone w r.passage
    → IsOf w r.passage → IsAlone u t.passage
still_alone event w u r t whole happens alone of =
    subst (IsAlone u) (sym (event_passage event w r u t happens)) (alone_stays event w u r t whole of happens alone)

pub run_stands : (events : List RehearsedEvent) (w : World) (r : Rehearsed) (u : World) (t : Rehearsed) (run : Runs events w r u t) (z : Transit)
    → IsAlone w r.passage → StandsFor w r z → StandsFor u t (all_happened (all_seen events w r u t run) z)
run_stands [] w r u t (world, same) z alone s =
    subst (λ (x : World). StandsFor x t z) (sym world) (subst (λ (x : Rehearsed). StandsFor w x z) (sym same) s)
run_stands (event ∷ later) w r u t (x, y, whole, happens, rest) z alone s =
    subst (λ a. StandsFor u t a) (sym (all_in_turn (seen event w r.passage) (all_seen later x y u t rest) z))
    (run_stands later x y u t rest (all_happened (seen event w r.passage) z) (still_alone event w x r y whole happens alone s.of)
    (event_stands w x r y event whole alone happens z s))

-- ---- its steps are those of the plan

no_steps : (is : Bool) (x : Happening) (l : List Happening) → transit.steps_in (x ∷ []) ≡ [] → transit.steps_in (x ∷ l) ≡ transit.steps_in l
    → transit.steps_in (cond is (x ∷ []) [] ++ l) ≡ transit.steps_in l
no_steps true x l none same = same
no_steps false x l none same = refl

no_landing_step : (is : Bool) (w : World) (p : Passage) (k : ℕ) (o : Option Flying) (l : List Happening)
    → transit.steps_in (cond is (landing_seen w p k o) [] ++ l) ≡ transit.steps_in l
no_landing_step false w p k o l = refl
no_landing_step true w p k None l = refl
no_landing_step true w p k (Some store) l = by_side (side_of w.imsic p store.entry)
  where
    by_side : (o : Option TransitSide) → transit.steps_in
        (landing_by o (length (flights_in w.imsic p (take k (flight_of w p.who.found.vm)))) ++ l) ≡ transit.steps_in l
    by_side None = refl
    by_side (Some side) = refl

pub run_steps : (events : List RehearsedEvent) (w : World) (r : Rehearsed) (u : World) (t : Rehearsed) (run : Runs events w r u t)
    → transit.steps_in (all_seen events w r u t run) ≡ steps_in events
run_steps [] w r u t run = refl
run_steps (Steps step ∷ later) w r u t (x, y, whole, happens, rest) = ap (λ l. step ∷ l) (run_steps later x y u t rest)
run_steps (DeviceStores vm addr value ∷ later) w r u t (x, y, whole, happens, rest) =
    no_steps (is_for_moved w r.passage vm addr) (happenings.Stores (identity_asked (addr % PAGE) value)) (all_seen later x y u t rest) refl refl
    ∙ run_steps later x y u t rest
run_steps (PeerStores vm to value ∷ later) w r u t (x, y, whole, happens, rest) =
    no_steps (is_vcpu (vcpu_of vm to) (mover_of r.passage)) (happenings.PeerStores (identity_asked 0 value)) (all_seen later x y u t rest) refl refl
    ∙ run_steps later x y u t rest
run_steps (DeviceSends vm addr value ∷ later) w r u t (x, y, whole, happens, rest) =
    no_steps (is_for_moved w r.passage vm addr) (happenings.Sends (identity_asked (addr % PAGE) value)) (all_seen later x y u t rest) refl refl
    ∙ run_steps later x y u t rest
run_steps (StoreLands vm k ∷ later) w r u t (x, y, whole, happens, rest) =
    no_landing_step (nat_eq vm r.passage.who.found.vm) w r.passage k (slice_get (flight_of w vm) k) (all_seen later x y u t rest)
    ∙ run_steps later x y u t rest
run_steps (EntryRead vm file ∷ later) w r u t (x, y, whole, happens, rest) =
    no_steps (is_vcpu (vcpu_of vm file) (mover_of r.passage)) happenings.Refetches (all_seen later x y u t rest) refl refl
    ∙ run_steps later x y u t rest

-- ---- the passage stays

pub run_passage : (events : List RehearsedEvent) (w : World) (r : Rehearsed) (u : World) (t : Rehearsed) → Runs events w r u t → t.passage ≡ r.passage
run_passage [] w r u t (world, same) = ap (λ (x : Rehearsed). x.passage) same
run_passage (event ∷ later) w r u t (x, y, whole, happens, rest) = run_passage later x y u t rest ∙ event_passage event w r x y happens

-- ---- what is due

asked_more : (side : TransitSide) (x i : ℕ) (z : Transit) → (landed side x z).due i ≡ (z.due i || (is_identity i && nat_eq x i))
asked_more Old x i z = refl
asked_more New x i z = refl

or_false : (b c : Bool) → b ≡ (b || (c && false))
or_false true true = refl
or_false true false = refl
or_false false true = refl
or_false false false = refl

or_joined : (a is b c : Bool) → ((a || (is && b)) || (is && c)) ≡ (a || (is && (b || c)))
or_joined true is b c = refl
or_joined false true true c = refl
or_joined false true false c = refl
or_joined false false b c = refl

all_landed_due : (stores : List Flight) (z : Transit) (i : ℕ)
    → (all_landed stores z).due i ≡ (z.due i || (is_identity i && list_any (λ (f : Flight). nat_eq f.identity i) stores))
all_landed_due [] z i = or_false (z.due i) (is_identity i)
all_landed_due (f ∷ later) z i =
    all_landed_due later (landed f.side f.identity z) i
    ∙ ap (λ b. b || (is_identity i && list_any (λ (f : Flight). nat_eq f.identity i) later)) (asked_more f.side f.identity i z)
    ∙ or_joined (z.due i) (is_identity i) (nat_eq f.identity i) (list_any (λ (f : Flight). nat_eq f.identity i) later)

step_due : (step : Step) (w : World) (p : Passage) (z : Transit) (i : ℕ) → z.flights ≡ flights_in w.imsic p (flight_of w p.who.found.vm)
    → (stepped step z).due i ≡ (z.due i || (is_identity i && asks (Steps step) w p i))
step_due steps.Fence w p z i own = all_landed_due z.flights z i
    ∙ ap (λ l. z.due i || (is_identity i && list_any (λ (f : Flight). nat_eq f.identity i) l)) own
step_due step w p z i own = or_false (z.due i) (is_identity i)

-- a store that is for the one who is moved, or not
store_due : (is : Bool) (side : TransitSide) (x i : ℕ) (h : Happening) (z : Transit) → happened h z ≡ landed side x z
    → (all_happened (cond is (h ∷ []) []) z).due i ≡ (z.due i || (is_identity i && (is && nat_eq x i)))
store_due true side x i h z e = ap (λ (y : Transit). y.due i) e ∙ asked_more side x i z
store_due false side x i h z e = or_false (z.due i) (is_identity i)

none_due : (is : Bool) (i : ℕ) (h : Happening) (z : Transit) → (happened h z).due i ≡ z.due i
    → (all_happened (cond is (h ∷ []) []) z).due i ≡ (z.due i || (is_identity i && false))
none_due true i h z e = e ∙ or_false (z.due i) (is_identity i)
none_due false i h z e = or_false (z.due i) (is_identity i)

land_due : (is : Bool) (w : World) (p : Passage) (k i : ℕ) (o : Option Flying) (z : Transit) → slice_get (flight_of w p.who.found.vm) k ≡ o
    → z.flights ≡ flights_in w.imsic p (flight_of w p.who.found.vm)
    → (all_happened (cond is (landing_seen w p k o) []) z).due i ≡ (z.due i || (is_identity i && (is && lands_for w p i o)))
land_due false w p k i o z is own = or_false (z.due i) (is_identity i)
land_due true w p k i None z is own = or_false (z.due i) (is_identity i)
land_due true w p k i (Some store) z is own = by_side (side_of w.imsic p store.entry) refl
  where
    by_side : (o : Option TransitSide) → side_of w.imsic p store.entry ≡ o
        → (all_happened (landing_by o (place_among w.imsic p (flight_of w p.who.found.vm) k)) z).due
        i ≡ (z.due i || (is_identity i && (is_some o && nat_eq (identity_asked store.offset store.value) i)))
    by_side None led = or_false (z.due i) (is_identity i)
    by_side (Some side) led =
        let found = ap (λ l. slice_get l (place_among w.imsic p (flight_of w p.who.found.vm) k)) own
        ∙ (removed_one w.imsic p (flight_of w p.who.found.vm) k store side is led).1 in
        ap (λ o. (one_landed o z).due i) found ∙ asked_more side (identity_asked store.offset store.value) i z

event_due : (event : RehearsedEvent) (w : World) (r : Rehearsed) (z : Transit) (i : ℕ) → StandsFor w r z
    → (all_happened (seen event w r.passage) z).due i ≡ (z.due i || (is_identity i && asks event w r.passage i))
event_due (Steps step) w r z i s = step_due step w r.passage z i s.flights.own
event_due (DeviceStores vm addr value) w r z i s =
    store_due (is_for_moved w r.passage vm addr) z.entry_in_force (identity_asked (addr % PAGE) value) i
    (happenings.Stores (identity_asked (addr % PAGE) value)) z refl
event_due (PeerStores vm to value) w r z i s =
    store_due (is_vcpu (vcpu_of vm to) (mover_of r.passage)) z.record_in_force (identity_asked 0 value) i
    (happenings.PeerStores (identity_asked 0 value)) z refl
event_due (DeviceSends vm addr value) w r z i s =
    none_due (is_for_moved w r.passage vm addr) i (happenings.Sends (identity_asked (addr % PAGE) value)) z refl
event_due (StoreLands vm k) w r z i s = elim (cases_eq vm r.passage.who.found.vm) [
  | inl e ↦ subst (λ v. (all_happened (cond (nat_eq v r.passage.who.found.vm) (landing_seen w r.passage k (slice_get (flight_of w v) k)) [])
      z).due i ≡ (z.due i || (is_identity i && (nat_eq v r.passage.who.found.vm && lands_for w r.passage i (slice_get (flight_of w v) k))))) (sym e)
      (land_due (nat_eq r.passage.who.found.vm r.passage.who.found.vm) w r.passage k i (slice_get (flight_of w r.passage.who.found.vm) k) z refl
      s.flights.own)
  | inr ne ↦ rw (ne_eqb vm r.passage.who.found.vm ne) (or_false (z.due i) (is_identity i))
]
event_due (EntryRead vm file) w r z i s = none_due (is_vcpu (vcpu_of vm file) (mover_of r.passage)) i happenings.Refetches z refl

pub run_due : (events : List RehearsedEvent) (w : World) (r : Rehearsed) (u : World) (t : Rehearsed) (run : Runs events w r u t) (z : Transit)
    (i : ℕ) → IsAlone w r.passage → StandsFor w r z
    → (all_happened (all_seen events w r u t run) z).due i ≡ (z.due i || (is_identity i && asked_in events w r u t run i))
run_due [] w r u t run z i alone s = or_false (z.due i) (is_identity i)
run_due (event ∷ later) w r u t (x, y, whole, happens, rest) z i alone s =
    ap (λ (a : Transit). a.due i) (all_in_turn (seen event w r.passage) (all_seen later x y u t rest) z)
    ∙ run_due later x y u t rest (all_happened (seen event w r.passage) z) i (still_alone event w x r y whole happens alone s.of)
    (event_stands w x r y event whole alone happens z s)
    ∙ ap (λ b. b || (is_identity i && asked_in later x y u t rest i)) (event_due event w r z i s)
    ∙ or_joined (z.due i) (is_identity i) (asks event w r.passage i) (asked_in later x y u t rest i)

-- ---- the machine stays

pub run_width : (events : List RehearsedEvent) (w : World) (r : Rehearsed) (u : World) (t : Rehearsed) → Runs events w r u t → width u ≡ width w
run_width [] w r u t (world, same) = ap width world
run_width (event ∷ later) w r u t (x, y, whole, happens, rest) = run_width later x y u t rest
    ∙ ap (λ n. (n + 1) / 64) (event_same event w r x y happens).n
