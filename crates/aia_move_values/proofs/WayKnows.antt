-- A store, wherever it is led, keeps what is known of a virtual hart; so does one that is sent, that
-- lands, or that is taken out of those in flight.
use Rattle.std.proofs.Common.{◌≡◌, ℕ, ◌%◌, Bool, true, false, List, [], ◌∷◌, ◌++◌, Option, Some, inl, inr, refl, sym, ap, ◌∙◌, subst}
use Rattle.std.specs.Prelude.{remove, slice_get}
use Rattle.std.proofs.lemmas.Bool.{cases_Bool, cond-true, cond-false, false≢true}
use Rattle.aia_regs.specs.declared.address_map.TheConstants.{PAGE}
use Rattle.aia_file.specs.InterruptFile.{InterruptFile, landed}
use Rattle.aia_entry.specs.declared.entry.Entry.{Entry}
use Rattle.aia_entry.specs.declared.entry.Entry.TheVariants.{Basic, Mrif, NotValid, Custom, Misconfigured}
use Rattle.aia_entry.specs.declared.table.Route.{Route}
use Rattle.aia_entry.specs.declared.table.Route.TheVariants.{Other, Fault, To}
use Rattle.aia_entry.specs.Tables.{table_of, entry_in_force, leads_by, route_of}
use Rattle.aia_entry.specs.Translation.{is_msi_address, file_number}
use Rattle.aia_vcpu.specs.declared.place.GuestPlace.{GuestPlace}
use Rattle.aia_vcpu.specs.Vms.{Vcpu, vcpu_of, is_vcpu_in}
use Rattle.aia_vcpu_places.specs.Holds.{IsWithin}
use Rattle.aia_vcpu_places.specs.Places.{leads_to}
use Rattle.aia_vcpu_places.specs.Stores.{AreApart}
use Rattle.aia_fabric_values.specs.declared.flying.Flying.{Flying}
use Rattle.aia_fabric_values.specs.World.{World, OnlyStores, flight_of, stage_of}
use Rattle.aia_fabric_values.specs.Whole.{IsWhole}
use Rattle.aia_fabric_values.specs.Flights.{with_flight, Sends, Lands}
use Rattle.aia_fabric_values.specs.Stores.{Reaches, ReachesBy, ReachesByRecord}
use Rattle.aia_fabric_values.proofs.FrameLemmas.{entry_rest, reaches_rest, record_rest}
use Rattle.aia_move_values.specs.Views.{places_of}
use Rattle.aia_move_values.specs.Move.{Moving, mover, width}
use Rattle.aia_move_values.specs.Targets.{TargetMap}
use Rattle.aia_move_values.specs.Touches.{SameMachine}
use Rattle.aia_move_values.specs.Ways.{led_by_entry, led_by_route, led_by_record, entry_of, leads_here, IsItsFlight, landed_if}
use Rattle.aia_move_values.proofs.KnowsLemmas.{KnowsPlaces, knows_by, device_knows, flight_knows, peer_knows}
use Rattle.aia_move_values.proofs.WayLemmas.{entry_elsewhere, record_elsewhere}
use Rattle.aia_move_values.proofs.WayFrames.{KnowsSo, KeepsWords, entry_words, route_words, record_words, stored_machine, stored_ways, ways_by, taken_was, sent_is, flight_set}

-- an entry that leads somewhere, as a route
pub route_leads : (w : World) (e : Entry) → led_by_route w (leads_by e) ≡ led_by_entry w e
route_leads w (Basic page) = refl
route_leads w (Mrif addr page identity) = refl
route_leads w NotValid = refl
route_leads w Custom = refl
route_leads w Misconfigured = refl

module _ (w u : World) (map : TargetMap) (Q : ℕ → Type 0) (m : Moving) (reach : Option GuestPlace) (file : InterruptFile) (saw : Bool) (whole :
    IsWhole w)
    (apart : AreApart m.home) (within : IsWithin w.n (width w) file) (all : KnowsSo Q w map m reach file saw) where
  -- a store that is led elsewhere, and one that is led here
  elsewhere : OnlyStores w u → KeepsWords w u → places_of u (mover m) m.home ≡ places_of w (mover m) m.home → KnowsSo Q u map m reach file saw
  elsewhere rest words seen = record {
    places = knows_by w u Q m reach saw (stored_machine w u rest) file file all.places (places_of w (mover m) m.home) seen all.places.holds;
    ways = stored_ways w u m rest words all.ways;
    targets = all.targets;
  }

  here : (after : InterruptFile) → OnlyStores w u → KeepsWords w u → KnowsPlaces Q u m reach after saw → KnowsSo Q u map m reach after saw
  here after rest words knows = record { places = knows; ways = stored_ways w u m rest words all.ways; targets = all.targets }

  by_either : (b : Bool) (offset value : ℕ) → (b ≡ true → KnowsSo Q u map m reach (landed offset value file) saw)
      → (b ≡ false → KnowsSo Q u map m reach file saw) → KnowsSo Q u map m reach (landed_if b offset value file) saw
  by_either true offset value led other = led refl
  by_either false offset value led other = other refl

  -- a device's
  route_elsewhere : (r : Route) (offset value : ℕ) → leads_here m (led_by_route w r) ≡ false → Reaches r w u offset value
      → places_of u (mover m) m.home ≡ places_of w (mover m) m.home
  route_elsewhere (To e) offset value other s = entry_elsewhere w u m offset value whole all.places.fits e other s
  route_elsewhere Other offset value other same = ap (λ (x : World). places_of x (mover m) m.home) same
  route_elsewhere (Fault e) offset value other same = ap (λ (x : World). places_of x (mover m) m.home) same

  -- a route that leads here is that of an entry of its own
  own_route : (v addr : ℕ) → leads_here m (led_by_route w (route_of (table_of w.tables v) addr)) ≡ true
      → (is_msi_address (table_of w.tables v).mask addr ≡ true) × (vcpu_of v (file_number (table_of w.tables v).mask addr) ≡ mover m)
  own_route v addr led = elim (cases_Bool (is_msi_address (table_of w.tables v).mask addr)) [
    | inl is ↦
        let e = entry_in_force (table_of w.tables v) (file_number (table_of w.tables v).mask addr) in
        let route : route_of (table_of w.tables v) addr ≡ leads_by e = cond-true _ _ _ is in (
          is,
          all.ways.entries (vcpu_of v (file_number (table_of w.tables v).mask addr))
              (ap (leads_here m) (sym (ap (led_by_route w) route ∙ route_leads w e)) ∙ led),
        )
    | inr none ↦
        let route : route_of (table_of w.tables v) addr ≡ Other = cond-false _ _ _ none in
        absurd (false≢true (ap (λ r. leads_here m (led_by_route w r)) (sym route) ∙ led))
  ]

  device_here : (v addr value : ℕ) → is_msi_address (table_of w.tables v).mask addr ≡ true → v ≡ m.who.found.vm
      → file_number (table_of w.tables v).mask addr ≡ m.who.found.vcpu
      → Reaches (route_of (table_of w.tables v) addr) w u (addr % PAGE) value → KnowsPlaces Q u m reach (landed (addr % PAGE) value file) saw
  device_here v addr value is vm names s =
      device_knows w u Q m reach file saw (addr % PAGE) value whole apart within all.places addr
      (ap (λ x. is_msi_address (table_of w.tables x).mask addr) (sym vm) ∙ is)
      (ap (λ x. file_number (table_of w.tables x).mask addr) (sym vm) ∙ names)
      (subst (λ x. Reaches (route_of (table_of w.tables x) addr) w u (addr % PAGE) value) vm s)

  pub device_all : (v addr value : ℕ) → Reaches (route_of (table_of w.tables v) addr) w u (addr % PAGE) value
      → KnowsSo Q u map m reach (landed_if (leads_here m (led_by_route w (route_of (table_of w.tables v) addr))) (addr % PAGE) value file) saw
  device_all v addr value s =
      let r = route_of (table_of w.tables v) addr in
      let rest = reaches_rest r w u (addr % PAGE) value s in
      let words = route_words w u (addr % PAGE) value whole r s in
      by_either (leads_here m (led_by_route w r)) (addr % PAGE) value
      (λ led. let own = own_route v addr led in
      here (landed (addr % PAGE) value file) rest words
      (device_here v addr value own.0 (ap (λ (g : Vcpu). g.vm) own.1) (ap (λ (g : Vcpu). g.vcpu) own.1) s))
      (λ other. elsewhere rest words (route_elsewhere r (addr % PAGE) value other s))

  -- a peer's
  pub peer_all : (g : Vcpu) (value : ℕ) → is_vcpu_in w.vms g ≡ true → ReachesByRecord (stage_of w g).in_force w u g value
      → KnowsSo Q u map m reach (landed_if (leads_here m (led_by_record w g (stage_of w g).in_force)) 0 value file) saw
  peer_all g value there s =
      let rest = record_rest (stage_of w g).in_force w u g value s in
      let words = record_words w u g (stage_of w g).in_force value whole there s in
      by_either (leads_here m (led_by_record w g (stage_of w g).in_force)) 0 value
      (λ led. let own = all.ways.records g there led in
      here (landed 0 value file) rest words (peer_knows w u Q m reach file saw value whole apart within all.places
      (subst (λ (x : Vcpu). ReachesByRecord (stage_of w x).in_force w u x value) own s)))
      (λ other. elsewhere rest words (record_elsewhere w u m value whole all.places.fits g (stage_of w g).in_force there other s))

  -- one in flight, where it was led as it was sent
  pub flying_all : (v k : ℕ) (store : Flying) → slice_get (flight_of w v) k ≡ Some store → ReachesBy store.entry w u store.offset store.value
      → KnowsSo Q u map m reach (landed_if (leads_here m (led_by_entry w store.entry)) store.offset store.value file) saw
  flying_all v k store is s =
      let rest = entry_rest store.entry w u store.offset store.value s in
      let words = entry_words w u store.offset store.value whole store.entry s in
      by_either (leads_here m (led_by_entry w store.entry)) store.offset store.value
      (λ led. let own = all.ways.flying v k store is led in
      here (landed store.offset store.value file) rest words
      (flight_knows w u Q m reach own.place file saw store.offset store.value whole apart within all.places own.may
      (subst (λ (e : Entry). ReachesBy e w u store.offset store.value) own.entry s)))
      (λ other. elsewhere rest words (entry_elsewhere w u m store.offset store.value whole all.places.fits store.entry other s))

-- ---- stores in flight

module _ (w : World) (map : TargetMap) (Q : ℕ → Type 0) (m : Moving) (reach : Option GuestPlace) (file : InterruptFile) (saw : Bool)
    (all : KnowsSo Q w map m reach file saw) where
  -- other ones are in flight
  with_others : (v : ℕ) (stores : List Flying) → ((x k : ℕ) (s : Flying) → slice_get (flight_of (with_flight w v stores) x) k ≡ Some s
      → leads_here m (led_by_entry w s.entry) ≡ true → IsItsFlight m x s) → KnowsSo Q (with_flight w v stores) map m reach file saw
  with_others v stores flying =
      let same : SameMachine w (with_flight w v stores) = record { n = refl; vms = refl; harts = refl; guests = refl } in
      record {
        places = knows_by w (with_flight w v stores) Q m reach saw same file file all.places (places_of w (mover m) m.home) refl all.places.holds;
        ways = ways_by w (with_flight w v stores) m same (λ g. record { entry = refl; written = refl; stage = refl }) flying all.ways;
        targets = all.targets;
      }

  -- one is taken out
  pub taken_all : (u : World) (v k : ℕ) → u ≡ with_flight w v (remove (flight_of w v) k) → KnowsSo Q u map m reach file saw
  taken_all u v k e = subst (λ (x : World). KnowsSo Q x map m reach file saw) (sym e)
      (with_others v (remove (flight_of w v) k) (λ x j s is led. let was = taken_was w v k x j s is in all.ways.flying x was.0 s was.1 led))

  -- one is sent
  sent_on : (v offset value : ℕ) (e : Entry) → (leads_here m (led_by_entry w e) ≡ true
      → IsItsFlight m v (record { entry = e; offset = offset; value = value }))
      → KnowsSo Q (with_flight w v (flight_of w v ++ record { entry = e; offset = offset; value = value } ∷ [])) map m reach file saw
  sent_on v offset value e its =
      let new : Flying = record { entry = e; offset = offset; value = value } in
      with_others v (flight_of w v ++ new ∷ []) (λ x k s is led.
      elim (flight_set w.flights v x (flight_of w v ++ new ∷ [])) [
        | inl here ↦ elim (sent_is (flight_of w v) new s k (ap (λ xs. slice_get xs k) (sym here.1) ∙ is)) [
          | inl was ↦ subst (λ y. IsItsFlight m y s) (sym here.0) (all.ways.flying v was.0 s was.1 led)
          | inr newest ↦ subst (λ y. IsItsFlight m y s) (sym here.0) (subst (λ (z : Flying). IsItsFlight m v z) (sym newest)
              (its (ap (λ (z : Flying). leads_here m (led_by_entry w z.entry)) (sym newest) ∙ led)))
        ]
        | inr other ↦ all.ways.flying x k s (ap (λ xs. slice_get xs k) (sym other) ∙ is) led
      ])

  -- by its entry in force, which leads here where it is its own
  own_entry : (g : Vcpu) → g ≡ mover m → entry_of w g ≡ leads_to m.who.found.slot m.who.found.notice reach
  own_entry g own = ap (λ (x : Vcpu). entry_of w x) own ∙ all.places.holds.routes.in_force

  pub sent_by : (g : Vcpu) (offset value : ℕ) (e : Entry) → e ≡ entry_of w g
      → KnowsSo Q (with_flight w g.vm (flight_of w g.vm ++ record { entry = e; offset = offset; value = value } ∷ [])) map m reach file saw
  sent_by g offset value e is = sent_on g.vm offset value e (λ led.
      let own = all.ways.entries g (ap (λ (x : Entry). leads_here m (led_by_entry w x)) (sym is) ∙ led) in
      record {
        vm = ap (λ (x : Vcpu). x.vm) own;
        place = reach;
        entry = is ∙ own_entry g own;
        may = all.places.holds.routes.may;
      })

  sent_along : (u : World) (g : Vcpu) (offset value : ℕ) (e : Entry) → e ≡ entry_of w g → Sends (leads_by e) w u g.vm offset value
      → KnowsSo Q u map m reach file saw
  sent_along u g offset value (Basic page) is sends =
      subst (λ (x : World). KnowsSo Q x map m reach file saw) (sym sends) (sent_by g offset value (Basic page) is)
  sent_along u g offset value (Mrif addr page identity) is sends =
      subst (λ (x : World). KnowsSo Q x map m reach file saw) (sym sends) (sent_by g offset value (Mrif addr page identity) is)
  sent_along u g offset value NotValid is same = subst (λ (x : World). KnowsSo Q x map m reach file saw) (sym same) all
  sent_along u g offset value Custom is same = subst (λ (x : World). KnowsSo Q x map m reach file saw) (sym same) all
  sent_along u g offset value Misconfigured is same = subst (λ (x : World). KnowsSo Q x map m reach file saw) (sym same) all

  pub sent_all : (u : World) (v addr value : ℕ) → Sends (route_of (table_of w.tables v) addr) w u v (addr % PAGE) value
      → KnowsSo Q u map m reach file saw
  sent_all u v addr value sends = elim (cases_Bool (is_msi_address (table_of w.tables v).mask addr)) [
    | inl is ↦
        let g : Vcpu = vcpu_of v (file_number (table_of w.tables v).mask addr) in
        let route : route_of (table_of w.tables v) addr ≡ leads_by (entry_of w g) = cond-true _ _ _ is in
        sent_along u g (addr % PAGE) value (entry_of w g) refl (subst (λ (r : Route). Sends r w u v (addr % PAGE) value) route sends)
    | inr none ↦
        let route : route_of (table_of w.tables v) addr ≡ Other = cond-false _ _ _ none in
        let same : u ≡ w = subst (λ (r : Route). Sends r w u v (addr % PAGE) value) route sends in
        subst (λ (x : World). KnowsSo Q x map m reach file saw) (sym same) all
  ]

-- one lands, and is in flight no more
pub landed_all : (w u : World) (map : TargetMap) (Q : ℕ → Type 0) (m : Moving) (reach : Option GuestPlace) (file : InterruptFile) (saw : Bool)
    → IsWhole w
    → AreApart m.home → IsWithin w.n (width w) file → KnowsSo Q w map m reach file saw → (v k : ℕ) (l : Lands w u v k)
    → KnowsSo Q u map m reach (landed_if (leads_here m (led_by_entry w l.store.entry)) l.store.offset l.store.value file) saw
landed_all w u map Q m reach file saw whole apart within all v k l =
    taken_all l.stored map Q m reach
    (landed_if (leads_here m (led_by_entry w l.store.entry)) l.store.offset l.store.value file) saw
    (flying_all w l.stored map Q m reach file saw whole apart within all v k l.store l.is l.reaches) u v k l.taken
