-- What happens between the steps is what happens on the machine of the proof.
use Rattle.std.proofs.Common.{◌≡◌, ◌≢◌, ℕ, ◌<◌, Bool, true, false, ◌&&◌, nat_lt, List, [], ◌∷◌, ◌++◌, length, Option, Some, None, inl, inr, ◌⊎◌, refl, sym, ap, ◌∙◌, subst, arith}
use Rattle.std.specs.Int.{is_in_range}
use Rattle.std.proofs.lemmas.Bool.{cases_Bool, cases_eq, cond-true, cond-false, eq-eqb, ne_eqb}
use Rattle.std.proofs.lemmas.Bool.Decides.{nat_tests}
use Rattle.std.proofs.lemmas.List.{get_or-set_same, get_or-set_other}
use Rattle.aia_regs.specs.BitUpdate.{names}
use Rattle.aia_file.specs.declared.spot.Spot.TheVariants.{SupervisorFile}
use Rattle.aia_file.specs.Imsic.{ImsicState, IsThere}
use Rattle.aia_entry.specs.declared.table.Route.{Route}
use Rattle.aia_entry.specs.declared.table.Route.TheVariants.{Other, Fault, To}
use Rattle.aia_entry.specs.Tables.{table_of, entry_in_force, leads_by, route_of}
use Rattle.aia_entry.specs.Translation.{is_msi_address, file_number}
use Rattle.aia_entry.proofs.TableLemmas.{fenced_elsewhere}
use Rattle.aia_vcpu.specs.declared.place.GuestPlace.{GuestPlace}
use Rattle.aia_vcpu.specs.Home.{is_place}
use Rattle.aia_vcpu.specs.Vms.{Vcpu, is_vcpu_in, slot_of, notice_identity, notice_hart}
use Rattle.aia_vcpu.proofs.HomeLemmas.{same_place, is_itself_place}
use Rattle.aia_vcpu.proofs.VmLemmas.{same_slot}
use Rattle.aia_vcpu_places.specs.Places.{leads_to}
use Rattle.aia_fabric_values.specs.declared.flying.Flying.{Flying}
use Rattle.aia_fabric_values.specs.World.{World, flight_of, stage_of}
use Rattle.aia_fabric_values.specs.Whole.{IsWhole}
use Rattle.aia_fabric_values.specs.Stores.{StoresInGuestFile, Reaches, ReachesByRecord, named_spot}
use Rattle.aia_fabric_values.specs.Flights.{Sends, with_flight}
use Rattle.aia_fabric_values.specs.Changes.{spot_of, with_fence}
use Rattle.aia_move_values.proofs.OwnLemmas.{guest_spot}
use Rattle.aia_fabric_values.proofs.PlaceLemmas.{slot_found}
use Rattle.aia_fabric_values.proofs.WholeLemmas.{notice_hart_there}
use Rattle.aia_move_values.proofs.ViewLemmas.{slot_low}
use Rattle.aia_plan.specs.Transit.{TransitSide, Flight, Transit, landed, happened}
use Rattle.aia_plan.specs.Transit.TransitSide.{Old, New}
use Rattle.aia_plan.specs.Transit.{Happening as happenings}
use Rattle.aia_rehearsal.specs.declared.place.Place as ends
use Rattle.aia_rehearsal.specs.declared.place.Place.TheVariants.{File, Slot}
use Rattle.aia_rehearsal.specs.Rehearsed.{Passage, Rehearsed, mover_of, on, at_of, file_of, names_on, IsFileThere}
use Rattle.aia_rehearsal.specs.Stands.{sets_at, routes_of, is_file_at, leads, side_of, identity_asked, onto_flights, flights_in, FlightsStand, StandsFor}
use Rattle.aia_rehearsal.specs.Events.{is_for_moved, NamesElsewhere}
use Rattle.aia_move_values.proofs.WhoLemmas.{small_who}
use Rattle.aia_rehearsal.proofs.RouteSteps.{all_kept}
use Rattle.aia_rehearsal.proofs.StoreSeen.{file_hit, slot_hit, at_spot, at_slot}
use Rattle.aia_rehearsal.proofs.Landings.{side_by, landed_on, store_lands, entry_lands, one_led, one_file_hit, one_slot_hit, named_spot_there}

-- a route leads to neither place
abbrev pub LeadsElsewhere : World → Passage → Route → Type 0
LeadsElsewhere w p (To entry) = side_of w.imsic p entry ≡ None
LeadsElsewhere w p route = Unit {0}

-- ---- on which side

side_is : (hits : ends.Place → Bool) (p : Passage) (side : TransitSide) → hits (on side p) ≡ true → (hits p.old ≡ true → hits p.new ≡ false)
    → side_by hits p ≡ Some side
side_is hits p Old led one = cond-true _ _ _ led
side_is hits p New led one = elim (cases_Bool (hits p.old)) [
  | inl old ↦ let not_new = one old in absurd (cc)
  | inr none ↦ cond-false _ _ _ none ∙ cond-true _ _ _ led
]

side_none : (hits : ends.Place → Bool) (p : Passage) → hits p.old ≡ false → hits p.new ≡ false → side_by hits p ≡ None
side_none hits p old new = cond-false _ _ _ old ∙ cond-false _ _ _ new

module _ (w : World) (r : Rehearsed) (z : Transit) (whole : IsWhole w) (s : StandsFor w r z) where
  abbrev p : Passage
  p = r.passage

  abbrev q : ℕ
  q = r.passage.who.found.slot

  there_on : (side : TransitSide) → IsFileThere w (on side p)
  there_on Old = s.of.old
  there_on New = s.of.new

  -- the entry of its own place leads there
  led_there : (hart : ℕ) (b : ends.Place) → IsFileThere w b → leads w.imsic q b (leads_to q hart (file_of b)) ≡ true
  led_there hart (File a) inside = ap (is_file_at a) (guest_spot w.imsic a whole.harts whole.guests inside) ∙ is_itself_place a
  led_there hart Slot inside = ap (λ o. names o q) (slot_found q (small_who w p.who whole s.of.who).1) ∙ eq-eqb q q refl

  own_side : (side : TransitSide) → side_of w.imsic p (leads_to q p.who.found.notice (names_on side p)) ≡ Some side
  own_side side = side_is (λ b. leads w.imsic q b (leads_to q p.who.found.notice (names_on side p))) p side
      (led_there p.who.found.notice (on side p) (there_on side)) (one_led w w r z 0 0 whole s (leads_to q p.who.found.notice (names_on side p)))

  -- so it is of the entry in force
  pub own_route : (vm addr : ℕ) → is_for_moved w p vm addr ≡ true
      → route_of (table_of w.tables vm) addr ≡ To (leads_to q p.who.found.notice (names_on z.entry_in_force p))
  own_route vm addr is =
      let here : vm ≡ p.who.found.vm = grind (arith, nat_tests) in
      let msi : is_msi_address (table_of w.tables vm).mask addr ≡ true = grind (arith, nat_tests) in
      let file : file_number (table_of w.tables vm).mask addr ≡ p.who.found.vcpu = grind (arith, nat_tests) in
      cond-true _ _ _ msi ∙ ap (λ n. leads_by (entry_in_force (table_of w.tables vm) n)) file
      ∙ ap (λ v. leads_by (entry_in_force (table_of w.tables v) p.who.found.vcpu)) here
      ∙ ap leads_by s.routes.entry_in_force ∙ to_place (names_on z.entry_in_force p)
    where
      to_place : (o : Option GuestPlace) → leads_by (leads_to q p.who.found.notice o) ≡ To (leads_to q p.who.found.notice o)
      to_place None = refl
      to_place (Some a) = refl

  -- ---- stores of devices

  module _ (u : World) (offset value : ℕ) where
    pub own_store : (route : Route) → route ≡ To (leads_to q p.who.found.notice (names_on z.entry_in_force p)) → Reaches route w u offset value
        → StandsFor u r (happened (happenings.Stores (identity_asked offset value)) z)
    own_store route is reaches =
        let entry = leads_to q p.who.found.notice (names_on z.entry_in_force p) in
        subst (λ o. StandsFor u r (landed_on o (identity_asked offset value) z)) (own_side z.entry_in_force)
        (entry_lands w u r z offset value whole s entry (subst (λ (x : Route). Reaches x w u offset value) is reaches))

    pub other_store : (route : Route) → LeadsElsewhere w p route → Reaches route w u offset value → StandsFor u r z
    other_store (To entry) none reaches = subst (λ o. StandsFor u r (landed_on o (identity_asked offset value) z)) none
        (entry_lands w u r z offset value whole s entry reaches)
    other_store Other none e = subst (λ (x : World). StandsFor x r z) (sym e) s
    other_store (Fault entry) none e = subst (λ (x : World). StandsFor x r z) (sym e) s

  -- ---- stores of peers

  -- a file that is there is named as it is
  named_there : (a : GuestPlace) → IsThere w.imsic (spot_of a) → named_spot w.imsic a ≡ spot_of a
  named_there a there = let named : (nat_lt a.hart w.imsic.harts && is_in_range 1 w.imsic.guests a.file) ≡ true = grind (arith, nat_tests) in
      cond-true _ _ _ named

  module _ (u : World) (value : ℕ) where
    own_relay : (b : ends.Place) (side : TransitSide) → b ≡ on side p → ReachesByRecord (file_of b) w u (mover_of p) value
        → StandsFor u r (landed side (identity_asked 0 value) z)
    own_relay (File a) side is relays =
        let inside : IsFileThere w (File a) = subst (IsFileThere w) (sym is) (there_on side) in
        let seen = at_spot w u p 0 value whole (spot_of a) (λ some. inside)
        (subst (λ x. StoresInGuestFile w u x 0 value) (named_there a inside) relays) in
        let led : file_hit (spot_of a) (on side p) ≡ true = subst (λ x. file_hit (spot_of a) x ≡ true) is (is_itself_place a) in
        let one = one_file_hit (spot_of a) p.old p.new s.two in
        subst (λ o. StandsFor u r (landed_on o (identity_asked 0 value) z)) (side_is (file_hit (spot_of a)) p side led one)
        (store_lands w u r z (file_hit (spot_of a)) 0 value s seen one)
    own_relay Slot side is relays =
        let low = (small_who w p.who whole s.of.who).1 in
        let slot : slot_of w.vms (mover_of p) ≡ q = sym s.of.who.slot in
        let o : Option ℕ = Some (slot_of w.vms (mover_of p)) in
        let seen = at_slot w u p 0 value whole o (SupervisorFile (notice_hart w.vms (mover_of p))) (notice_identity w.vms (mover_of p))
        (λ n e. let same : slot_of w.vms (mover_of p) ≡ n = cc in omega (arith, low, slot, same))
        (λ some. notice_hart_there w (mover_of p) whole s.of.who.there) relays in
        let led : slot_hit o q (on side p) ≡ true = subst (λ x. slot_hit o q x ≡ true) is (eq-eqb (slot_of w.vms (mover_of p)) q slot) in
        let one = one_slot_hit o q p.old p.new s.two in
        subst (λ o. StandsFor u r (landed_on o (identity_asked 0 value) z)) (side_is (slot_hit o q) p side led one)
        (store_lands w u r z (slot_hit o q) 0 value s seen one)

    pub own_peer : ReachesByRecord (stage_of w (mover_of p)).in_force w u (mover_of p) value
        → StandsFor u r (happened (happenings.PeerStores (identity_asked 0 value)) z)
    own_peer relays = own_relay (on z.record_in_force p) z.record_in_force refl
        (subst (λ o. ReachesByRecord o w u (mover_of p) value) s.routes.record_in_force relays)

    pub other_peer : (g : Vcpu) (named : Option GuestPlace) → is_vcpu_in w.vms g ≡ true → g ≢ mover_of p → NamesElsewhere p named
        → ReachesByRecord named w u g value → StandsFor u r z
    other_peer g (Some a) there other none relays =
        let seen = at_spot w u p 0 value whole (named_spot w.imsic a) (named_spot_there w a) relays in
        let one = one_file_hit (named_spot w.imsic a) p.old p.new s.two in
        subst (λ o. StandsFor u r (landed_on o (identity_asked 0 value) z))
        (side_none (file_hit (named_spot w.imsic a)) p (missed p.old (λ b e. none Old b (ap file_of e)))
        (missed p.new (λ b e. none New b (ap file_of e)))) (store_lands w u r z (file_hit (named_spot w.imsic a)) 0 value s seen one)
      where
        missed : (x : ends.Place) → ((b : GuestPlace) → x ≡ File b → Some a ≢ Some b) → file_hit (named_spot w.imsic a) x ≡ false
        missed Slot apart = refl
        missed (File b) apart = elim (cases_Bool (nat_lt a.hart w.imsic.harts && is_in_range 1 w.imsic.guests a.file)) [
          | inl named ↦ ap (is_file_at b) (cond-true _ _ _ named) ∙ elim (cases_Bool (is_place b a)) [
            | inl same ↦ absurd (apart b refl (ap Some (sym (same_place b a same))))
            | inr ne ↦ ne
          ]
          | inr past ↦ ap (is_file_at b) (cond-false _ _ _ past)
        ]
    other_peer g None there other none relays =
        let o : Option ℕ = Some (slot_of w.vms g) in
        let seen = at_slot w u p 0 value whole o (SupervisorFile (notice_hart w.vms g)) (notice_identity w.vms g)
        (λ n e. let same : slot_of w.vms g ≡ n = cc in let low = slot_low w g whole there in omega (arith, low, same))
        (λ some. notice_hart_there w g whole there) relays in
        let one = one_slot_hit o q p.old p.new s.two in
        subst (λ o. StandsFor u r (landed_on o (identity_asked 0 value) z)) (side_none (slot_hit o q) p (missed p.old) (missed p.new))
        (store_lands w u r z (slot_hit o q) 0 value s seen one)
      where
        missed : (x : ends.Place) → slot_hit (Some (slot_of w.vms g)) q x ≡ false
        missed (File b) = refl
        missed Slot = ne_eqb (slot_of w.vms g) q (λ e. other (same_slot w.vms g (mover_of p) there s.of.who.there (e ∙ s.of.who.slot)))

  -- ---- stores in flight

  flights_after : (i : ImsicState) (stores : List Flying) (store : Flying)
      → flights_in i p (stores ++ store ∷ []) ≡ flights_in i p stores ++ onto_flights (side_of i p store.entry) store []
  flights_after i [] store = refl
  flights_after i (y ∷ later) store = ap (onto_flights (side_of i p y.entry) y) (flights_after i later store) ∙ front (side_of i p y.entry)
    where
      front : (o : Option TransitSide) → onto_flights o y (flights_in i p later ++ onto_flights (side_of i p store.entry) store []) ≡ onto_flights
          o y (flights_in i p later) ++ onto_flights (side_of i p store.entry) store []
      front None = refl
      front (Some side) = refl

  -- other stores are in flight
  with_stores : (vm : ℕ) (stores : List Flying) (flights : List Flight)
      → FlightsStand (with_flight w vm stores) p (record z { flights = flights })
      → StandsFor (with_flight w vm stores) r (record z { flights = flights })
  with_stores vm stores flights fly = record {
    of = record {
      who = record { there = s.of.who.there; slot = s.of.who.slot; notice = s.of.who.notice };
      old = inside p.old s.of.old;
      new =
          inside p.new s.of.new;
    };
    two = s.two;
    sets = record {
      old_pending = s.sets.old_pending;
      old_enabled = s.sets.old_enabled;
      new_pending = s.sets.new_pending;
      new_enabled =
          s.sets.new_enabled;
      carried_pending = s.sets.carried_pending;
      carried_enables = s.sets.carried_enables;
    };
    routes = record {
      entry_written = s.routes.entry_written;
      notice = s.routes.notice;
      entry_in_force = s.routes.entry_in_force;
      record_written =
          s.routes.record_written;
      record_in_force = s.routes.record_in_force;
    };
    flights = fly;
  }
    where
      inside : (b : ends.Place) → IsFileThere w b → IsFileThere (with_flight w vm stores) b
      inside (File a) there = there
      inside Slot there = there

  module _ (vm : ℕ) (store : Flying) (low : vm < length w.vms) where
    more_here : flight_of (with_flight w vm (flight_of w vm ++ store ∷ [])) vm ≡ flight_of w vm ++ store ∷ []
    more_here = get_or-set_same w.flights vm (flight_of w vm ++ store ∷ []) [] (omega (arith, low, whole.flights))

    others_same : (v : ℕ) → v ≢ vm → flight_of (with_flight w vm (flight_of w vm ++ store ∷ [])) v ≡ flight_of w v
    others_same v other = get_or-set_other w.flights vm v (flight_of w vm ++ store ∷ []) [] other

    sent : (o : Option TransitSide) → side_of w.imsic p store.entry ≡ o
        → flights_in w.imsic p (flight_of (with_flight w vm (flight_of w vm ++ store ∷ [])) vm) ≡ flights_in w.imsic p
        (flight_of w vm) ++ onto_flights o store []
    sent o is = ap (flights_in w.imsic p) more_here ∙ flights_after w.imsic (flight_of w vm) store
        ∙ ap (λ x. flights_in w.imsic p (flight_of w vm) ++ onto_flights x store []) is

    pub own_sent : vm ≡ p.who.found.vm → side_of w.imsic p store.entry ≡ Some z.entry_in_force
        → StandsFor (with_flight w vm (flight_of w vm ++ store ∷ [])) r (happened (happenings.Sends (identity_asked store.offset store.value)) z)
    own_sent is led = with_stores vm (flight_of w vm ++ store ∷ [])
        (z.flights ++ record { side = z.entry_in_force; identity = identity_asked store.offset store.value } ∷ []) (record {
          own = ap (λ l. l ++ record { side = z.entry_in_force; identity = identity_asked store.offset store.value } ∷ [])
              (s.flights.own ∙ ap (λ v. flights_in w.imsic p (flight_of w v)) (sym is)) ∙ sym (sent (Some z.entry_in_force) led)
              ∙ ap (λ v. flights_in w.imsic p (flight_of (with_flight w vm (flight_of w vm ++ store ∷ [])) v)) is;
          others = λ v other. ap (flights_in w.imsic p) (others_same v (λ e. other (e ∙ is))) ∙ s.flights.others v other;
        })

    unchanged : (v : ℕ) → side_of w.imsic p store.entry ≡ None
        → flights_in w.imsic p (flight_of (with_flight w vm (flight_of w vm ++ store ∷ [])) v) ≡ flights_in w.imsic p (flight_of w v)
    unchanged v none = elim (cases_eq v vm) [
      | inl e ↦ ap (λ x. flights_in w.imsic p (flight_of (with_flight w vm (flight_of w vm ++ store ∷ [])) x)) e ∙ sent None none
          ∙ none_after (flights_in w.imsic p (flight_of w vm)) ∙ ap (λ x. flights_in w.imsic p (flight_of w x)) (sym e)
      | inr ne ↦ ap (flights_in w.imsic p) (others_same v ne)
    ]
      where
        none_after : (l : List Flight) → l ++ [] ≡ l
        none_after [] = refl
        none_after (x ∷ later) = ap (λ l. x ∷ l) (none_after later)

    pub other_sent : side_of w.imsic p store.entry ≡ None → StandsFor (with_flight w vm (flight_of w vm ++ store ∷ [])) r z
    other_sent none = with_stores vm (flight_of w vm ++ store ∷ []) z.flights (record {
      own = s.flights.own ∙ sym (unchanged p.who.found.vm none);
      others = λ v other. unchanged v none ∙ s.flights.others v other;
    })

  pub own_send : (u : World) (vm offset value : ℕ) (route : Route) → vm < length w.vms → vm ≡ p.who.found.vm
      → route ≡ To (leads_to q p.who.found.notice (names_on z.entry_in_force p)) → Sends route w u vm offset value
      → StandsFor u r (happened (happenings.Sends (identity_asked offset value)) z)
  own_send u vm offset value route low here is sends =
      let entry = leads_to q p.who.found.notice (names_on z.entry_in_force p) in
      let e : u ≡ with_flight w vm (flight_of w vm ++ record { entry = entry; offset = offset; value = value } ∷ []) =
      subst (λ (x : Route). Sends x w u vm offset value) is sends in
      subst (λ (x : World). StandsFor x r (happened (happenings.Sends (identity_asked offset value)) z)) (sym e)
      (own_sent vm (record { entry = entry; offset = offset; value = value }) low here (own_side z.entry_in_force))

  pub other_send : (u : World) (vm offset value : ℕ) (route : Route) → vm < length w.vms → LeadsElsewhere w p route
      → Sends route w u vm offset value → StandsFor u r z
  other_send u vm offset value (To entry) low none e =
      subst (λ (x : World). StandsFor x r z) (sym e) (other_sent vm (record { entry = entry; offset = offset; value = value }) low none)
  other_send u vm offset value Other low none e = subst (λ (x : World). StandsFor x r z) (sym e) s
  other_send u vm offset value (Fault entry) low none e = subst (λ (x : World). StandsFor x r z) (sym e) s

  -- ---- entries that are read again

  pub other_refetched : (vm file : ℕ) → (vm ≢ p.who.found.vm) ⊎ (file ≢ p.who.found.vcpu) → StandsFor (with_fence w vm file) r z
  other_refetched vm file other =
      let in_force : entry_in_force (table_of (with_fence w vm file).tables p.who.found.vm) p.who.found.vcpu ≡ entry_in_force
      (table_of w.tables p.who.found.vm) p.who.found.vcpu =
      fenced_elsewhere w.tables vm file w.memory p.who.found.vm p.who.found.vcpu (turned other) in
      all_kept w r z whole s (with_fence w vm file) r.hand (record { n = refl; vms = refl; harts = refl; guests = refl }) refl (same_at p.old)
      (same_at p.new) (λ k. record (routes_of w (mover_of p)) { in_force = in_force k }) refl refl
    where
      turned : (vm ≢ p.who.found.vm) ⊎ (file ≢ p.who.found.vcpu) → (p.who.found.vm ≢ vm) ⊎ (p.who.found.vcpu ≢ file)
      turned (inl a) = inl (λ e. a (sym e))
      turned (inr b) = inr (λ e. b (sym e))

      same_at : (b : ends.Place) → sets_at (with_fence w vm file) (at_of q b) ≡ sets_at w (at_of q b)
      same_at (File a) = refl
      same_at Slot = refl
