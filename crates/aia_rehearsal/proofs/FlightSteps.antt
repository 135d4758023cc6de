-- A store in flight lands, and all of a VM do before a fence.
use Rattle.std.proofs.Common.{◌≡◌, ◌≢◌, ℕ, zero, suc, ◌<◌, List, [], ◌∷◌, length, Option, Some, None, inl, inr, refl, sym, ap, ◌∙◌, subst, arith}
use Rattle.std.specs.Prelude.{remove, take, slice_get, slice_index_or}
use Rattle.std.proofs.lemmas.Bool.{cases_eq}
use Rattle.std.proofs.lemmas.List.{get_or-set_same, get_or-set_other}
use Rattle.aia_file.specs.Imsic.{ImsicState}
use Rattle.aia_fabric_values.specs.declared.flying.Flying.{Flying}
use Rattle.aia_fabric_values.specs.World.{World, OnlyStores, flight_of}
use Rattle.aia_fabric_values.specs.Whole.{IsWhole}
use Rattle.aia_fabric_values.specs.Flights.{Lands, LandsOldest, Fences, with_flight}
use Rattle.aia_fabric_values.specs.Changes.{with_fence}
use Rattle.aia_fabric_values.proofs.FrameLemmas.{entry_rest}
use Rattle.aia_fabric_values.proofs.FlightLemmas.{fence_leaves_none}
use Rattle.aia_fabric_values.proofs.WholeLemmas.{vcpu_entry}
use Rattle.aia_rehearsal.proofs.RouteSteps.{refetched}
use Rattle.aia_plan.specs.declared.step.Step.TheVariants.{Fence}
use Rattle.aia_plan.specs.Transit.{TransitSide, Flight, Transit, landed, all_landed, one_landed, all_but, stepped, happened}
use Rattle.aia_plan.specs.Transit.TransitSide.{Old, New}
use Rattle.aia_plan.specs.Transit.Happening.{Lands as lands}
use Rattle.aia_rehearsal.specs.declared.place.Place as ends
use Rattle.aia_rehearsal.specs.declared.place.Place.TheVariants.{File, Slot}
use Rattle.aia_rehearsal.specs.Rehearsed.{Passage, Rehearsed, IsFileThere}
use Rattle.aia_rehearsal.specs.Stands.{side_of, identity_asked, onto_flights, flights_in, FlightsStand, StandsFor}
use Rattle.aia_rehearsal.proofs.Carried.{flights_same}
use Rattle.aia_rehearsal.proofs.Landings.{landed_on, entry_lands}

-- ---- the lists

-- the store that a side and a flying store make, if it leads to a place
abbrev flight_by : Option TransitSide → Flying → Option Flight
flight_by None store = None
flight_by (Some side) store = Some (record { side = side; identity = identity_asked store.offset store.value })

module _ (i : ImsicState) (p : Passage) where
  -- where the k-th store stands among those that lead to a place
  abbrev pub place_among : List Flying → ℕ → ℕ
  place_among stores k = length (flights_in i p (take k stores))

  pub removed_none : (stores : List Flying) (k : ℕ) (store : Flying) → slice_get stores k ≡ Some store → side_of i p store.entry ≡ None
      → flights_in i p (remove stores k) ≡ flights_in i p stores
  removed_none [] k store is none = absurd (cc)
  removed_none (y ∷ later) zero store is none = let same : y ≡ store = cc in
      sym (ap (λ (f : Flying). onto_flights (side_of i p f.entry) y (flights_in i p later)) same
      ∙ ap (λ o. onto_flights o y (flights_in i p later)) none)
  removed_none (y ∷ later) (suc k) store is none = ap (onto_flights (side_of i p y.entry) y) (removed_none later k store is none)

  pub removed_one : (stores : List Flying) (k : ℕ) (store : Flying) (side : TransitSide) → slice_get stores k ≡ Some store
      → side_of i p store.entry ≡ Some side → (flights_in i p (remove stores k) ≡ all_but (place_among stores k) (flights_in i p stores))
      × (slice_get (flights_in i p stores) (place_among stores k) ≡ Some (record { side = side; identity = identity_asked store.offset store.value }))
  removed_one [] k store side is led = absurd (cc)
  removed_one (y ∷ later) zero store side is led =
      let same : y ≡ store = cc in
      let first : flights_in i p (y ∷ later) ≡ record { side = side; identity = identity_asked store.offset store.value } ∷ flights_in i p later =
      ap (λ (f : Flying). onto_flights (side_of i p f.entry) f (flights_in i p later)) same
      ∙ ap (λ o. onto_flights o store (flights_in i p later)) led in
      (sym (ap (all_but 0) first), ap (λ l. slice_get l 0) first)
  removed_one (y ∷ later) (suc k) store side is led = further (side_of i p y.entry) (removed_one later k store side is led)
    where
      further : (o : Option TransitSide) → (flights_in i p (remove later k) ≡ all_but (place_among later k) (flights_in i p later))
          × (slice_get (flights_in i p later) (place_among later k) ≡ Some
          (record { side = side; identity = identity_asked store.offset store.value }))
          → (onto_flights o y (flights_in i p (remove later k)) ≡ all_but (length (onto_flights o y (flights_in i p (take k later))))
          (onto_flights o y (flights_in i p later))) × (slice_get (onto_flights o y (flights_in i p later))
          (length (onto_flights o y (flights_in i p (take k later)))) ≡ Some
          (record { side = side; identity = identity_asked store.offset store.value }))
      further None so = so
      further (Some other) so = (ap (λ l. record { side = other; identity = identity_asked y.offset y.value } ∷ l) so.0, so.1)

  pub none_leads : (stores : List Flying) (k : ℕ) (store : Flying) → slice_get stores k ≡ Some store → flights_in i p stores ≡ []
      → side_of i p store.entry ≡ None
  none_leads [] k store is none = absurd (cc)
  none_leads (y ∷ later) zero store is none = let same : y ≡ store = cc in
      subst (λ (f : Flying). side_of i p f.entry ≡ None) same (first (side_of i p y.entry) none)
    where
      first : (o : Option TransitSide) → onto_flights o y (flights_in i p later) ≡ [] → o ≡ None
      first None e = refl
      first (Some side) e = absurd (cc)
  none_leads (y ∷ later) (suc k) store is none = none_leads later k store is (rest (side_of i p y.entry) none)
    where
      rest : (o : Option TransitSide) → onto_flights o y (flights_in i p later) ≡ [] → flights_in i p later ≡ []
      rest None e = e
      rest (Some side) e = absurd (cc)

-- ---- one lands

-- the state after the k-th store of a VM has landed, given where it leads
abbrev pub landed_state : Option TransitSide → ℕ → Transit → Transit
landed_state None k z = z
landed_state (Some side) k z = happened (lands k) z

module _ (w u : World) (r : Rehearsed) (z : Transit) (vm k : ℕ) (whole : IsWhole w) (s : StandsFor w r z) (l : Lands w u vm k) where
  abbrev p : Passage
  p = r.passage

  rest : OnlyStores w l.stored
  rest = entry_rest l.store.entry w l.stored l.store.offset l.store.value l.reaches

  same_flight : (v : ℕ) → flight_of l.stored v ≡ flight_of w v
  same_flight v = ap (λ (x : World). flight_of x v) rest

  same_leads : (stores : List Flying) → flights_in u.imsic p stores ≡ flights_in w.imsic p stores
  same_leads stores = flights_same u.imsic w.imsic (ap (λ (x : World). x.imsic.harts) l.taken ∙ ap (λ (x : World). x.imsic.harts) rest)
      (ap (λ (x : World). x.imsic.guests) l.taken ∙ ap (λ (x : World). x.imsic.guests) rest) p stores

  there : vm < length w.flights
  there = in_lists w.flights vm l.is
    where
      in_lists : (lists : List (List Flying)) (v : ℕ) → slice_get (slice_index_or lists v []) k ≡ Some l.store → v < length lists
      in_lists [] v e = absurd (cc)
      in_lists (y ∷ lists) zero e = omega arith
      in_lists (y ∷ lists) (suc v) e = let more = in_lists lists v e in omega (arith, more)

  left_here : flight_of u vm ≡ remove (flight_of w vm) k
  left_here =
      ap (λ (x : World). flight_of x vm) l.taken ∙ get_or-set_same l.stored.flights vm (remove (flight_of l.stored vm) k) []
      (omega (arith, there, ap (λ (x : World). length x.flights) rest))
      ∙ ap (λ stores. remove stores k) (same_flight vm)

  left_there : (v : ℕ) → v ≢ vm → flight_of u v ≡ flight_of w v
  left_there v other = ap (λ (x : World). flight_of x v) l.taken
      ∙ get_or-set_other l.stored.flights vm v (remove (flight_of l.stored vm) k) [] other ∙ same_flight v

  old_there : (b : ends.Place) → IsFileThere l.stored b → IsFileThere (with_flight l.stored vm (remove (flight_of l.stored vm) k)) b
  old_there (File a) inside = inside
  old_there Slot inside = inside

  -- the state has other stores in flight
  with_others : (y : Transit) (flights : List Flight) → StandsFor l.stored r y → FlightsStand u p (record y { flights = flights })
      → StandsFor u r (record y { flights = flights })
  with_others y flights t stand = subst (λ (x : World). FlightsStand x p (record y { flights = flights })
      → StandsFor x r (record y { flights = flights })) (sym l.taken) (λ fly. record {
        of = record {
          who = record { there = t.of.who.there; slot = t.of.who.slot; notice = t.of.who.notice };
          old = old_there p.old t.of.old;
          new =
              old_there p.new t.of.new;
        };
        two = t.two;
        sets = record {
          old_pending = t.sets.old_pending;
          old_enabled = t.sets.old_enabled;
          new_pending = t.sets.new_pending;
          new_enabled =
              t.sets.new_enabled;
          carried_pending = t.sets.carried_pending;
          carried_enables = t.sets.carried_enables;
        };
        routes = record {
          entry_written = t.routes.entry_written;
          notice = t.routes.notice;
          entry_in_force = t.routes.entry_in_force;
          record_written =
              t.routes.record_written;
          record_in_force = t.routes.record_in_force;
        };
        flights = fly;
      }) stand

  -- it is one of its VM: it leads to a place or not
  own_landed : vm ≡ p.who.found.vm → (o : Option TransitSide) → side_of w.imsic p l.store.entry ≡ o
      → StandsFor l.stored r (landed_on o (identity_asked l.store.offset l.store.value) z)
      → StandsFor u r (landed_state o (place_among w.imsic p (flight_of w p.who.found.vm) k) z)
  own_landed is None none t = with_others z z.flights t (record {
    own = s.flights.own ∙ sym (same_leads (flight_of u p.who.found.vm) ∙ ap (λ v. flights_in w.imsic p (flight_of u v)) (sym is)
        ∙ ap (flights_in w.imsic p) left_here ∙ removed_none w.imsic p (flight_of w vm) k l.store l.is none
        ∙ ap (λ v. flights_in w.imsic p (flight_of w v)) is);
    others = λ v other. same_leads (flight_of u v) ∙ ap (flights_in w.imsic p) (left_there v (λ e. other (e ∙ is))) ∙ s.flights.others v other;
  })
  own_landed is (Some side) led t =
      let at : ℕ = place_among w.imsic p (flight_of w p.who.found.vm) k in
      let one = removed_one w.imsic p (flight_of w p.who.found.vm) k l.store side
      (subst (λ v. slice_get (flight_of w v) k ≡ Some l.store) is l.is) led in
      let found : slice_get z.flights at ≡ Some (record { side = side; identity = identity_asked l.store.offset l.store.value }) =
      ap (λ f. slice_get f at) s.flights.own ∙ one.1 in
      let lands_there : happened (lands at) z ≡ record (landed side (identity_asked l.store.offset l.store.value) z)
      { flights = all_but at z.flights } = ap (λ o. record (one_landed o z) { flights = all_but at z.flights }) found in
      subst (λ y. StandsFor u r y) (sym lands_there)
      (with_others (landed side (identity_asked l.store.offset l.store.value) z) (all_but at z.flights) t (record {
        own = ap (all_but at) s.flights.own ∙ sym (same_leads (flight_of u p.who.found.vm)
            ∙ ap (λ v. flights_in w.imsic p (flight_of u v)) (sym is) ∙ ap (flights_in w.imsic p) left_here
            ∙ ap (λ v. flights_in w.imsic p (remove (flight_of w v) k)) is ∙ one.0);
        others = λ v other. same_leads (flight_of u v) ∙ ap (flights_in w.imsic p) (left_there v (λ e. other (e ∙ is))) ∙ s.flights.others v other;
      }))

  stored_stands : StandsFor l.stored r (landed_on (side_of w.imsic p l.store.entry) (identity_asked l.store.offset l.store.value) z)
  stored_stands = entry_lands w l.stored r z l.store.offset l.store.value whole s l.store.entry l.reaches

  pub own_store_landed : vm ≡ p.who.found.vm → StandsFor u r
      (landed_state (side_of w.imsic p l.store.entry) (place_among w.imsic p (flight_of w p.who.found.vm) k) z)
  own_store_landed is = own_landed is (side_of w.imsic p l.store.entry) refl stored_stands

  -- it is one of another VM: it leads to neither
  pub other_store_landed : vm ≢ p.who.found.vm → StandsFor u r z
  other_store_landed other =
      let none = none_leads w.imsic p (flight_of w vm) k l.store l.is (s.flights.others vm other) in
      with_others z z.flights (subst (λ o. StandsFor l.stored r (landed_on o (identity_asked l.store.offset l.store.value) z)) none
      stored_stands) (record {
        own = s.flights.own ∙ sym (same_leads (flight_of u p.who.found.vm)
            ∙ ap (flights_in w.imsic p) (left_there p.who.found.vm (λ e. other (sym e))));
        others = λ v ne. same_leads (flight_of u v) ∙ elim (cases_eq v vm) [
          | inl e ↦ ap (λ x. flights_in w.imsic p (flight_of u x)) e ∙ ap (flights_in w.imsic p) left_here
              ∙ removed_none w.imsic p (flight_of w vm) k l.store l.is none ∙ s.flights.others vm other
          | inr apart ↦ ap (flights_in w.imsic p) (left_there v apart) ∙ s.flights.others v ne
        ];
      })

-- ---- all land before a fence

-- the oldest store in flight lands so many times
abbrev landed_times : ℕ → Transit → Transit
landed_times zero z = z
landed_times (suc count) z = happened (lands 0) (landed_times count z)

inner_first : (count : ℕ) (z : Transit) → landed_times (suc count) z ≡ landed_times count (happened (lands 0) z)
inner_first zero z = refl
inner_first (suc count) z = ap (happened (lands 0)) (inner_first count z)

abbrev emptied : Transit → Transit
emptied z = record z { flights = [] }

-- what lands does not look at what is in flight
same_landed : (stores : List Flight) (z y : Transit) → emptied z ≡ emptied y → emptied (all_landed stores z) ≡ emptied (all_landed stores y)
same_landed [] z y e = e
same_landed (store ∷ later) z y e = same_landed later (landed store.side store.identity z) (landed store.side store.identity y) (one store.side)
  where
    one : (side : TransitSide) → emptied (landed side store.identity z) ≡ emptied (landed side store.identity y)
    one Old = ap (landed Old store.identity) e
    one New = ap (landed New store.identity) e

-- once none is left all have landed, the oldest first
all_have : (count : ℕ) (stores : List Flight) (z : Transit) → (landed_times count (record z { flights = stores })).flights ≡ []
    → landed_times count (record z { flights = stores }) ≡ emptied (all_landed stores z)
all_have zero stores z none = ap (λ l. record z { flights = l }) none ∙ sym (ap (λ l. emptied (all_landed l z)) none)
all_have (suc count) [] z none = inner_first count (record z { flights = [] })
    ∙ all_have count [] z (sym (ap (λ (y : Transit). y.flights) (inner_first count (record z { flights = [] }))) ∙ none)
all_have (suc count) (store ∷ later) z none =
    let first = inner_first count (record z { flights = store ∷ later }) in
    let lands_first : happened (lands 0) (record z { flights = store ∷ later }) ≡ record (landed store.side store.identity z)
    { flights = later } = one store.side in
    let step = first ∙ ap (landed_times count) lands_first in
    step ∙ all_have count later (landed store.side store.identity z) (sym (ap (λ (y : Transit). y.flights) step) ∙ none)
  where
    one : (side : TransitSide) → record (landed side store.identity (record z { flights = store ∷ later })) { flights = later } ≡ record
        (landed side store.identity z) { flights = later }
    one Old = refl
    one New = refl

-- some of the VM have landed
pub record HaveLanded (w u : World) (r : Rehearsed) (z : Transit) : Type 0 where
  count : ℕ
  stands : StandsFor u r (landed_times count z)

oldest_landed : (count : ℕ) (w u : World) (r : Rehearsed) (z : Transit) → IsWhole w → StandsFor w r z
    → LandsOldest count w u r.passage.who.found.vm → HaveLanded w u r z
oldest_landed zero w u r z whole s same = record { count = 0; stands = subst (λ (x : World). StandsFor x r z) (sym same) s }
oldest_landed (suc more) w u r z whole s (mid, before, whole_mid, l) =
    let so_far = oldest_landed more w mid r z whole s before in
    one_more so_far.count (side_of mid.imsic r.passage l.store.entry)
    (own_store_landed mid u r (landed_times so_far.count z) r.passage.who.found.vm 0 whole_mid so_far.stands l refl)
  where
    one_more : (done : ℕ) (o : Option TransitSide) → StandsFor u r (landed_state o 0 (landed_times done z)) → HaveLanded w u r z
    one_more done None t = record { count = done; stands = t }
    one_more done (Some side) t = record { count = suc done; stands = t }

entry_stays : (stores : List Flight) (z : Transit) → (all_landed stores z).entry_written ≡ z.entry_written
entry_stays [] z = refl
entry_stays (store ∷ later) z = entry_stays later (landed store.side store.identity z) ∙ one store.side
  where
    one : (side : TransitSide) → (landed side store.identity z).entry_written ≡ z.entry_written
    one Old = refl
    one New = refl

pub fenced : (w u : World) (r : Rehearsed) (z : Transit) → IsWhole w → StandsFor w r z
    → Fences w u r.passage.who.found.vm r.passage.who.found.vcpu → StandsFor u r (stepped Fence z)
fenced w u r z whole s f =
    let vm = r.passage.who.found.vm in
    let have = oldest_landed (length (flight_of w vm)) w f.landed r z whole s f.lands in
    let low = (vcpu_entry w vm r.passage.who.found.vcpu whole s.of.who.there).0 in
    let none : flight_of f.landed vm ≡ [] = sym (ap (λ (x : World). flight_of x vm) f.fenced)
    ∙ fence_leaves_none w u vm r.passage.who.found.vcpu whole low f in
    let landed_all = all_have have.count z.flights z (have.stands.flights.own ∙ ap (flights_in f.landed.imsic r.passage) none) in
    let last = refetched f.landed r (emptied (all_landed z.flights z)) f.whole (subst (λ y. StandsFor f.landed r y) landed_all have.stands) in
    subst (λ (x : World). StandsFor x r (stepped Fence z)) (sym f.fenced)
    (subst (λ side. StandsFor (with_fence f.landed vm r.passage.who.found.vcpu) r
    (record (emptied (all_landed z.flights z)) { entry_in_force = side })) (entry_stays z.flights z) last)
