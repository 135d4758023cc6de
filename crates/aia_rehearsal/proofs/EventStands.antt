-- Each event is what it is seen as.
use Rattle.std.proofs.Common.{◌≡◌, ◌≢◌, ℕ, ◌%◌, Bool, true, false, cond, nat_eq, [], ◌∷◌, Option, Some, None, inl, inr, ◌⊎◌, sym, ap, ◌∙◌, subst}
use Rattle.std.specs.Prelude.{slice_get}
use Rattle.std.proofs.lemmas.Bool.{cases_Bool, cases_eq, cond-true, cond-false, eq-eqb, ne_eqb}
use Rattle.std.proofs.lemmas.Bool.Decides.{nat_tests}
use Rattle.std.proofs.Common.{arith}
use Rattle.aia_regs.specs.declared.address_map.TheConstants.{PAGE}
use Rattle.aia_entry.specs.declared.entry.Entry.{Entry}
use Rattle.aia_entry.specs.declared.entry.Entry.TheVariants.{Basic, Mrif, NotValid, Custom, Misconfigured}
use Rattle.aia_entry.specs.Tables.{table_of, entry_in_force, leads_by, route_of}
use Rattle.aia_entry.specs.Translation.{is_msi_address, file_number}
use Rattle.aia_vcpu.specs.Vms.{Vcpu, vcpu_of, is_vcpu}
use Rattle.aia_vcpu.proofs.VmLemmas.{same_vcpu}
use Rattle.aia_fabric_values.specs.World.{World, flight_of, stage_of}
use Rattle.aia_fabric_values.specs.Whole.{IsWhole}
use Rattle.aia_fabric_values.specs.Stores.{ReachesByRecord}
use Rattle.aia_fabric_values.specs.Flights.{Lands}
use Rattle.aia_fabric_values.specs.Changes.{with_fence}
use Rattle.aia_plan.specs.Transit.{TransitSide, Transit, Happening, happened, all_happened}
use Rattle.aia_plan.specs.Transit.{Happening as happenings}
use Rattle.aia_rehearsal.specs.Rehearsed.{Passage, Rehearsed, mover_of}
use Rattle.aia_rehearsal.specs.Stands.{identity_asked, side_of, StandsFor}
use Rattle.aia_rehearsal.specs.Events.{RehearsedEvent, Happens, IsAlone, NamesElsewhere, is_for_moved, landing_by, landing_seen, seen}
use Rattle.aia_rehearsal.specs.Events.RehearsedEvent.{Steps, DeviceStores, PeerStores, DeviceSends, StoreLands, EntryRead}
use Rattle.aia_rehearsal.proofs.StepStands.{rehearsed}
use Rattle.aia_rehearsal.proofs.RouteSteps.{refetched}
use Rattle.aia_rehearsal.proofs.FlightSteps.{place_among, landed_state, own_store_landed, other_store_landed}
use Rattle.aia_rehearsal.proofs.Between.{LeadsElsewhere, own_route, own_store, other_store, own_peer, other_peer, own_send, other_send, other_refetched}
use Rattle.aia_move_values.proofs.WayFences.{no_vcpu}

-- what is for another virtual hart does not come to the places
abbrev KeepsAway : RehearsedEvent → World → Passage → Type 0
KeepsAway (DeviceStores vm addr value) w p = is_for_moved w p vm addr ≡ false → LeadsElsewhere w p (route_of (table_of w.tables vm) addr)
KeepsAway (PeerStores vm to value) w p = is_vcpu (vcpu_of vm to) (mover_of p) ≡ false → NamesElsewhere p (stage_of w (vcpu_of vm to)).in_force
KeepsAway (DeviceSends vm addr value) w p = is_for_moved w p vm addr ≡ false → LeadsElsewhere w p (route_of (table_of w.tables vm) addr)
KeepsAway event w p = Unit {0}

one_or_none : (w : World) (r : Rehearsed) (z : Transit) (is : Bool) (x : Happening) → (is ≡ true → StandsFor w r (happened x z))
    → (is ≡ false → StandsFor w r z) → StandsFor w r (all_happened (cond is (x ∷ []) []) z)
one_or_none w r z is x own other = elim (cases_Bool is) [
  | inl mine ↦ subst (λ l. StandsFor w r (all_happened l z)) (sym (cond-true _ _ _ mine)) (own mine)
  | inr not ↦ subst (λ l. StandsFor w r (all_happened l z)) (sym (cond-false _ _ _ not)) (other not)
]

module _ (w u : World) (r : Rehearsed) (z : Transit) (whole : IsWhole w) (s : StandsFor w r z) where
  abbrev p : Passage
  p = r.passage

  land_seen : (vm k : ℕ) (l : Lands w u vm k) → StandsFor u r
      (all_happened (cond (nat_eq vm p.who.found.vm) (landing_seen w p k (slice_get (flight_of w vm) k)) []) z)
  land_seen vm k l = elim (cases_eq vm p.who.found.vm) [
    | inl e ↦ subst (λ x. StandsFor u r (all_happened x z)) (sym (cond-true _ _ _ (eq-eqb vm p.who.found.vm e) ∙ ap (landing_seen w p k) l.is))
        (by_side (side_of w.imsic p l.store.entry) (own_store_landed w u r z vm k whole s l e))
    | inr ne ↦ subst (λ x. StandsFor u r (all_happened x z)) (sym (cond-false _ _ _ (ne_eqb vm p.who.found.vm ne)))
        (other_store_landed w u r z vm k whole s l ne)
  ]
    where
      by_side : (o : Option TransitSide) → StandsFor u r (landed_state o (place_among w.imsic p (flight_of w p.who.found.vm) k) z)
          → StandsFor u r (all_happened (landing_by o (place_among w.imsic p (flight_of w p.who.found.vm) k)) z)
      by_side None t = t
      by_side (Some side) t = t

  entry_read : (vm file : ℕ) → u ≡ with_fence w vm file
      → StandsFor u r (all_happened (cond (is_vcpu (vcpu_of vm file) (mover_of p)) (happenings.Refetches ∷ []) []) z)
  entry_read vm file e = one_or_none u r z (is_vcpu (vcpu_of vm file) (mover_of p)) happenings.Refetches
      (λ mine. let same = same_vcpu (vcpu_of vm file) (mover_of p) mine in
      subst (λ (x : World). StandsFor x r (happened happenings.Refetches z)) (sym (e ∙ ap (λ (g : Vcpu). with_fence w g.vm g.vcpu) same))
      (refetched w r z whole s))
      (λ not. subst (λ (x : World). StandsFor x r z) (sym e) (other_refetched w r z whole s vm file (apart vm file not)))
    where
      apart : (vm file : ℕ) → is_vcpu (vcpu_of vm file) (mover_of p) ≡ false → (vm ≢ p.who.found.vm) ⊎ (file ≢ p.who.found.vcpu)
      apart vm file none = elim (cases_eq vm p.who.found.vm) [
        | inl e ↦ inr (λ f. let no : is_vcpu (vcpu_of vm file) (mover_of p) ≡ true = grind (arith, nat_tests) in absurd (cc))
        | inr ne ↦ inl ne
      ]

  between : (event : RehearsedEvent) (t : Rehearsed) → Happens event w r u t → KeepsAway event w p → StandsFor u t (all_happened (seen event w p) z)
  between (Steps step) t (inside, makes, e) away = rehearsed w u r t step whole inside makes e z s
  between (DeviceStores vm addr value) t (low, reaches, e) away =
      subst (λ (x : Rehearsed). StandsFor u x (all_happened (seen (DeviceStores vm addr value) w p) z)) (sym e)
      (one_or_none u r z (is_for_moved w p vm addr) (happenings.Stores (identity_asked (addr % PAGE) value))
      (λ mine. own_store w r z whole s u (addr % PAGE) value (route_of (table_of w.tables vm) addr) (own_route w r z whole s vm addr mine) reaches)
      (λ not. other_store w r z whole s u (addr % PAGE) value (route_of (table_of w.tables vm) addr) (away not) reaches))
  between (PeerStores vm to value) t (there, relays, e) away =
      subst (λ (x : Rehearsed). StandsFor u x (all_happened (seen (PeerStores vm to value) w p) z)) (sym e)
      (one_or_none u r z (is_vcpu (vcpu_of vm to) (mover_of p)) (happenings.PeerStores (identity_asked 0 value))
      (λ mine. own_peer w r z whole s u value (subst (λ (g : Vcpu). ReachesByRecord (stage_of w g).in_force w u g value)
      (same_vcpu (vcpu_of vm to) (mover_of p) mine) relays))
      (λ not. other_peer w r z whole s u value (vcpu_of vm to) (stage_of w (vcpu_of vm to)).in_force there (no_vcpu (vcpu_of vm to) (mover_of p) not)
      (away not) relays))
  between (DeviceSends vm addr value) t (low, sends, e) away =
      subst (λ (x : Rehearsed). StandsFor u x (all_happened (seen (DeviceSends vm addr value) w p) z)) (sym e)
      (one_or_none u r z (is_for_moved w p vm addr) (happenings.Sends (identity_asked (addr % PAGE) value))
      (λ mine. own_send w r z whole s u vm (addr % PAGE) value (route_of (table_of w.tables vm) addr) low
      (let same : vm ≡ p.who.found.vm = grind (arith, nat_tests) in same) (own_route w r z whole s vm addr mine) sends)
      (λ not. other_send w r z whole s u vm (addr % PAGE) value (route_of (table_of w.tables vm) addr) low (away not) sends))
  between (StoreLands vm k) t (low, l, e) away =
      subst (λ (x : Rehearsed). StandsFor u x (all_happened (seen (StoreLands vm k) w p) z)) (sym e) (land_seen vm k l)
  between (EntryRead vm file) t (there, is, e) away =
      subst (λ (x : Rehearsed). StandsFor u x (all_happened (seen (EntryRead vm file) w p) z)) (sym e) (entry_read vm file is)

-- so it is where both places are its own
led_elsewhere : (w : World) (p : Passage) (entry : Entry) → side_of w.imsic p entry ≡ None → LeadsElsewhere w p (leads_by entry)
led_elsewhere w p (Basic page) none = none
led_elsewhere w p (Mrif addr page identity) none = none
led_elsewhere w p NotValid none = tt
led_elsewhere w p Custom none = tt
led_elsewhere w p Misconfigured none = tt

route_elsewhere : (w : World) (p : Passage) (vm addr : ℕ) → IsAlone w p → is_for_moved w p vm addr ≡ false
    → LeadsElsewhere w p (route_of (table_of w.tables vm) addr)
route_elsewhere w p vm addr alone not = elim (cases_Bool (is_msi_address (table_of w.tables vm).mask addr)) [
  | inl msi ↦
      let g = vcpu_of vm (file_number (table_of w.tables vm).mask addr) in
      let other : g ≢ mover_of p = λ e. let here : vm ≡ p.who.found.vm = ap (λ (x : Vcpu). x.vm) e in
      let file : file_number (table_of w.tables vm).mask addr ≡ p.who.found.vcpu = ap (λ (x : Vcpu). x.vcpu) e in
      let no : is_for_moved w p vm addr ≡ true = grind (arith, nat_tests) in absurd (cc) in
      subst (LeadsElsewhere w p) (sym (cond-true _ _ _ msi))
      (led_elsewhere w p (entry_in_force (table_of w.tables vm) (file_number (table_of w.tables vm).mask addr)) (alone.in_force g other))
  | inr none ↦ subst (LeadsElsewhere w p) (sym (cond-false _ _ _ none)) tt
]

keeps_away : (event : RehearsedEvent) (w u : World) (r t : Rehearsed) → IsAlone w r.passage → Happens event w r u t → KeepsAway event w r.passage
keeps_away (Steps step) w u r t alone happens = tt
keeps_away (DeviceStores vm addr value) w u r t alone happens = route_elsewhere w r.passage vm addr alone
keeps_away (PeerStores vm to value) w u r t alone happens =
    λ not. alone.records (vcpu_of vm to) happens.0 (no_vcpu (vcpu_of vm to) (mover_of r.passage) not)
keeps_away (DeviceSends vm addr value) w u r t alone happens = route_elsewhere w r.passage vm addr alone
keeps_away (StoreLands vm k) w u r t alone happens = tt
keeps_away (EntryRead vm file) w u r t alone happens = tt

pub event_stands : (w u : World) (r t : Rehearsed) (event : RehearsedEvent) → IsWhole w → IsAlone w r.passage → Happens event w r u t
    → (z : Transit) → StandsFor w r z → StandsFor u t (all_happened (seen event w r.passage) z)
event_stands w u r t event whole alone happens z s = between w u r z whole s event t happens (keeps_away event w u r t alone happens)
