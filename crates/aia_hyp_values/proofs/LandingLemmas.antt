-- What stores in flight make of a core that stands for a history: one lands, all of a VM do, one is
-- sent.
use Rattle.std.proofs.Common.{◌≡◌, ◌≢◌, ℕ, zero, suc, ◌%◌, ◌<◌, ◌≤◌, Bool, true, false, not, cond, nat_eq, List, [], ◌∷◌, ◌++◌, length, map, slice_get, get_or, Option, Some, None, inl, inr, unwrap_or, refl, sym, ap, subst, ◌∙◌, arith, get_or-set_same, get_or-set_other}
use Rattle.std.specs.Prelude.{remove, nat_le}
use Rattle.std.specs.Option.{option_map}
use Rattle.std.proofs.lemmas.List.{map-append, length-map, get_or_past}
use Rattle.std.proofs.lemmas.Option.{slice_get-map, none-some}
use Rattle.std.proofs.lemmas.Bool.{cases_Bool, cond-true, cond-false, eqb-true, eq-eqb, ne_eqb, lt-ltb, le-ltb, false≢true}
use Rattle.std.proofs.lemmas.Bool.Decides.{nat_tests}
use Rattle.aia_entry.specs.declared.entry.Entry.TheVariants as entries
use Rattle.aia_entry.specs.declared.table.Route.{Route}
use Rattle.aia_entry.specs.declared.table.Route.TheVariants.{Other, Fault}
use Rattle.aia_entry.specs.Tables.{table_of, leads_by, route_of}
use Rattle.aia_entry.specs.Translation.{is_msi_address}
use Rattle.aia_vcpu.specs.declared.place.GuestPlace.{GuestPlace}
use Rattle.aia_vcpu.specs.declared.vm.Vm.{Vm}
use Rattle.aia_vcpu.specs.Vms.{slot_of, notice_hart}
use Rattle.aia_vcpu.specs.Routes.{is_at_fence}
use Rattle.aia_vcpu.proofs.HomeLemmas.{landing_is_held}
use Rattle.aia_vcpu.proofs.RouteLemmas.{reach_lands}
use Rattle.aia_vcpu_places.specs.Places.{leads_to}
use Rattle.aia_fabric_values.specs.declared.flying.Flying.{Flying}
use Rattle.aia_fabric_values.specs.World.{World, flight_of}
use Rattle.aia_fabric_values.specs.Whole.{IsWhole}
use Rattle.aia_fabric_values.specs.Stores.{ReachesBy}
use Rattle.aia_fabric_values.specs.Flights.{with_flight, Sends, Lands, LandsOldest}
use Rattle.aia_model.specs.declared.answer.Answer.{Answer}
use Rattle.aia_model.specs.declared.answer.Answer.TheVariants.{Okay, Refused}
use Rattle.aia_model.specs.declared.refusal.Refusal.TheVariants as words
use Rattle.aia_model.specs.declared.line.Line.TheVariants.{Send, Land}
use Rattle.aia_model.specs.Event.{History, file_words}
use Rattle.aia_model.specs.Event.Event.{Accepted, Landed}
use Rattle.aia_model.specs.Flight.{Sending, flight, flying}
use Rattle.aia_model.specs.Vms.{vms_of, has_vm, has_vcpu, mask_of}
use Rattle.aia_model.specs.GuestFile.{named_by, sent_to, landing_deed}
use Rattle.aia_model.specs.HomeOf.{home}
use Rattle.aia_model.specs.ReachOf.{in_force_of, sent_into, MayFly, IsForOne}
use Rattle.aia_model.specs.Notice.{noticed_by_landing}
use Rattle.aia_model.specs.Refusal.{refusal}
use Rattle.aia_model.specs.Answer.{oldest_landed, landed_first}
use Rattle.aia_model.proofs.AnswerLemmas.{send_refusal, land_refusal}
use Rattle.aia_fabric_values.proofs.FlightLemmas.{all_landed_rest}
use Rattle.aia_move_values.proofs.OwnLemmas.{by_entry}
use Rattle.aia_move_values.specs.Move.{Moving, mover}
use Rattle.aia_move_values.specs.Landings.{LandsFirst}
use Rattle.aia_model.proofs.FlightLemmas.{all_at}
use Rattle.aia_model.specs.Passes.{passes_of}
use Rattle.aia_hyp_values.specs.Core.{CoreState}
use Rattle.aia_hyp_values.specs.Stands.{flying_of, CoreStands, CoreTakes, line_served, route_answer}
use Rattle.aia_hyp_values.proofs.VcpuLemmas.{quiet_landing, quiet_send}
use Rattle.aia_hyp_values.proofs.StandsLemmas.{Becomes, with_flights, none_passes, stands_after}
use Rattle.aia_hyp_values.proofs.EventLemmas.{Changes, IsHosts, changed, nothing_done, by_refusal, refused}
use Rattle.aia_hyp_values.proofs.GuestStores.{stored_for_guest}
use Rattle.aia_hyp_values.proofs.DeviceLemmas.{Addressed, same_core, vm_there, no_route, lost_route, own_route, reached, goes_to}
use Rattle.aia_regs.specs.declared.limits.TheConstants.{STORES_IN_FLIGHT}
use Rattle.aia_regs.specs.declared.address_map.TheConstants.{PAGE}

-- ---- lists of stores

remove_map : {A B : Type 0} (f : A → B) (xs : List A) (k : ℕ) → remove (map f xs) k ≡ map f (remove xs k)
remove_map f [] zero = refl
remove_map f [] (suc k) = refl
remove_map f (x ∷ xs) zero = refl
remove_map f (x ∷ xs) (suc k) = ap (λ l. f x ∷ l) (remove_map f xs k)

landed_from : (h : History) (v vm k : ℕ) → flight (Landed v k ∷ h) vm ≡ cond (nat_eq v vm) (remove (flight h vm) k) (flight h vm)
unfolding flight
landed_from h v vm k = refl

sent_on : (h : History) (v addr value vm : ℕ) → flight (Accepted (Send v addr value) ∷ h) vm ≡ cond (nat_eq v vm)
    (flight h vm ++ record { before = h; addr = addr; value = value } ∷ []) (flight h vm)
unfolding flight
sent_on h v addr value vm = refl

-- the list of one VM is another one, and that of every other VM stays
module _ (x y : CoreState) (vm : ℕ) (stores : List Flying) (there : vm < length x.world.flights)
    (is : y.world.flights ≡ (with_flight x.world vm stores).flights) where
  own_flight : flight_of y.world vm ≡ stores
  own_flight = ap (λ flights. get_or flights vm []) is ∙ get_or-set_same x.world.flights vm stores [] there

  other_flight : (v : ℕ) → nat_eq vm v ≡ false → flight_of y.world v ≡ flight_of x.world v
  other_flight v ne = ap (λ flights. get_or flights v []) is
      ∙ get_or-set_other x.world.flights vm v stores [] (λ e. false≢true (sym ne ∙ eq-eqb vm v (sym e)))

-- ---- what a store in flight reaches as it lands

module _ (x : CoreState) (h : History) (u : World) (vm k : ℕ) (stands : CoreStands x h) (landing : Lands x.world u vm k) where
  pub found : option_map (flying_of vm) (flying h vm k) ≡ Some landing.store
  found = sym (slice_get-map (flying_of vm) (flight h vm) k) ∙ ap (λ stores. slice_get stores k) (sym (stands.flights vm)) ∙ landing.is

  -- it goes where its virtual hart's entry led as it was sent
  pub reaches_as_sent : (s : Sending) → flying h vm k ≡ Some s
      → ReachesBy (leads_to (slot_of (vms_of h) (sent_to vm s)) (notice_hart (vms_of h) (sent_to vm s)) (sent_into vm s)) x.world landing.stored
      (s.addr % PAGE) s.value
  reaches_as_sent s is =
      let g = sent_to vm s in
      let into = sent_into vm s in
      let one : IsForOne h vm s = all_at (IsForOne h vm) k (flight h vm) s is (stands.for_one vm) in
      let store : flying_of vm s ≡ landing.store = let both : Some (flying_of vm s) ≡ Some landing.store = ap (option_map (flying_of vm)) (sym is)
      ∙ found in cc in
      let as_sent : ReachesBy (leads_to (slot_of (vms_of s.before) g) (notice_hart (vms_of s.before) g) into) x.world landing.stored
      (s.addr % PAGE) s.value =
      subst (λ (f : Flying). ReachesBy f.entry x.world landing.stored f.offset f.value) (sym store) landing.reaches in
      subst (λ q. ReachesBy (leads_to q (notice_hart (vms_of h) g) into) x.world landing.stored (s.addr % PAGE) s.value) (sym one.slot)
      (subst (λ hart. ReachesBy (leads_to (slot_of (vms_of s.before) g) hart into) x.world landing.stored (s.addr % PAGE) s.value)
      (sym one.notice) as_sent)

-- neither passes a source
none_by_landing : (h : History) (vm k : ℕ) → passes_of (Landed vm k ∷ h) ≡ passes_of h
unfolding passes_of
none_by_landing h vm k = refl

none_by_sending : (h : History) (vm addr value : ℕ) → passes_of (Accepted (Send vm addr value) ∷ h) ≡ passes_of h
unfolding passes_of
none_by_sending h vm addr value = refl

-- ---- one lands

-- what a call says that lands the k-th store in flight of a VM
pub record IsLanding (x y : CoreState) (vm k : ℕ) : Type 0 where
  pub whole : IsWhole x.world
  pub low : vm < length x.world.vms
  pub lands : Lands x.world y.world vm k
  pub leases : y.leases ≡ x.leases
  pub vcpus : y.vcpus ≡ x.vcpus
  pub selects : y.selects ≡ x.selects
  pub passes : y.passes ≡ x.passes

module _ (x y : CoreState) (h : History) (vm k : ℕ) (c : IsLanding x y vm k) (stands : CoreStands x h) where
  -- the core once the store is at its place
  abbrev between : CoreState
  between = record y { world = c.lands.stored }

  stored_so : (s : Sending) → flying h vm k ≡ Some s → Changes x between h (Landed vm k)
  stored_so s is =
      let g = sent_to vm s in
      let into = sent_into vm s in
      let may : MayFly h vm s = all_at (MayFly h vm) k (flight h vm) s is (stands.may_fly vm) in
      let one : IsForOne h vm s = all_at (IsForOne h vm) k (flight h vm) s is (stands.for_one vm) in
      let leads = reach_lands (file_words h) (home h g) into may in
      stored_for_guest x between h (Landed vm k) g into (s.addr % PAGE) s.value (record {
        meant = record {
          stands = stands;
          whole = c.whole;
          quiet = quiet_landing h vm k;
          there = one.there;
          leads = leads;
          majors = λ other m. refl;
          deeds = λ other. ap (landing_deed other vm) is;
          leases = c.leases;
          vcpus = c.vcpus;
          selects = c.selects;
          passes = c.passes;
        };
        notices = ap (noticed_by_landing h vm) is;
        host = λ f. refl;
        stores = reached x between h g (s.addr % PAGE) s.value into stands c.whole one.there
            (λ p e. stands.held g p one.there (landing_is_held (file_words h) (home h g) into p leads e))
            (by_entry into (slot_of (vms_of h) g) (notice_hart (vms_of h) g) x.world c.lands.stored (s.addr % PAGE) s.value
            (reaches_as_sent x h y.world vm k stands c.lands s is));
      })

  stored_somewhere : (o : Option Sending) → flying h vm k ≡ o → Changes x between h (Landed vm k)
  stored_somewhere None is = let bad : ◌≡◌ {A = Option Flying} None (Some c.lands.store) = ap (option_map (flying_of vm)) (sym is)
      ∙ found x h y.world vm k stands c.lands in absurd (cc)
  stored_somewhere (Some s) is = stored_so s is

  landing_changes : Changes x between h (Landed vm k)
  landing_changes = stored_somewhere (flying h vm k) refl

  same_flights : c.lands.stored.flights ≡ x.world.flights
  same_flights = ap (λ (w : World). w.flights) landing_changes.rest

  abbrev taken_out : List Flying
  taken_out = remove (flight_of c.lands.stored vm) k

  out_of : taken_out ≡ map (flying_of vm) (remove (flight h vm) k)
  out_of = ap (λ flights. remove (get_or flights vm []) k) same_flights ∙ ap (λ stores. remove stores k) (stands.flights vm)
      ∙ remove_map (flying_of vm) (flight h vm) k

  in_lists : vm < length c.lands.stored.flights
  in_lists = omega (arith, c.low, c.whole.flights, ap length same_flights)

  flights_then : (v : ℕ) → flight_of y.world v ≡ map (flying_of v) (flight (Landed vm k ∷ h) v)
  flights_then v = elim (cases_Bool (nat_eq vm v)) [
    | inl own ↦ subst (λ v. flight_of y.world v ≡ map (flying_of v) (flight (Landed vm k ∷ h) v)) (eqb-true vm v own)
        (own_flight between y vm taken_out in_lists (ap (λ (w : World). w.flights) c.lands.taken) ∙ out_of
        ∙ ap (map (flying_of vm)) (sym (landed_from h vm vm k ∙ cond-true _ _ _ (eq-eqb vm vm refl))))
    | inr other ↦
        other_flight between y vm taken_out in_lists (ap (λ (w : World). w.flights) c.lands.taken) v other
        ∙ ap (λ flights. get_or flights v []) same_flights ∙ stands.flights v
        ∙ ap (map (flying_of v)) (sym (landed_from h vm v k ∙ cond-false _ _ _ other))
  ]

  becomes : Becomes x y h (Landed vm k)
  becomes = subst (λ (w : World). Becomes x (record y { world = w }) h (Landed vm k)) (sym c.lands.taken)
      (with_flights x between h (Landed vm k) (with_flight c.lands.stored vm taken_out).flights
      (changed x between h (Landed vm k) landing_changes stands))

pub landing_stands : (x y : CoreState) (h : History) (vm k : ℕ) → IsLanding x y vm k → CoreStands x h → CoreStands y (Landed vm k ∷ h)
landing_stands x y h vm k c stands = stands_after x y h (Landed vm k) (becomes x y h vm k c stands)
    (record { first = tt; one = tt; flights = flights_then x y h vm k c stands })
    (none_passes x y h (Landed vm k) (none_by_landing h vm k) tt c.passes stands) stands

-- ---- all of a VM land, the oldest first

last_landed : (count vm : ℕ) (h : History) → oldest_landed (suc count) vm h ≡ Landed vm 0 ∷ oldest_landed count vm h
last_landed zero vm h = refl
last_landed (suc count) vm h = last_landed count vm (Landed vm 0 ∷ h)

all_landed : (count : ℕ) (x : CoreState) (u : World) (vm : ℕ) → vm < length x.world.vms → LandsOldest count x.world u vm → (h : History)
    → CoreStands x h → CoreStands (record x { world = u }) (oldest_landed count vm h)
all_landed zero x u vm low same h stands = subst (λ (w : World). CoreStands (record x { world = w }) h) (sym same) stands
all_landed (suc count) x u vm low (mid, before, whole, lands) h stands =
    let rest = all_landed_rest count x.world mid vm before in
    subst (CoreStands (record x { world = u })) (sym (last_landed count vm h))
    (landing_stands (record x { world = mid }) (record x { world = u }) (oldest_landed count vm h) vm 0 (record {
      whole = whole;
      low = omega (arith, low, ap (λ (w : World). length w.vms) rest);
      lands = lands;
      leases = refl;
      vcpus = refl;
      selects = refl;
      passes = refl;
    }) (all_landed count x mid vm low before h stands))

how_many : (x : CoreState) (h : History) (vm : ℕ) → CoreStands x h → length (flight_of x.world vm) ≡ length (flight h vm)
how_many x h vm stands = ap length (stands.flights vm) ∙ length-map (flight h vm) (flying_of vm)

-- ---- what lands before a step of a virtual hart's move

-- the core once it has landed
abbrev pub once_landed : CoreState → World → CoreState
once_landed x landed = record x { world = landed }

pub first_stands : (x : CoreState) (landed : World) (m : Moving) (h : History) → m.who.found.vm < length x.world.vms → m.home ≡ home h (mover m)
    → LandsFirst x.world m landed → CoreStands x h → CoreStands (once_landed x landed) (landed_first (mover m) h)
first_stands x landed m h low same first stands = by_fence (is_at_fence (home h (mover m))) refl
  where
    by_fence : (b : Bool) → is_at_fence (home h (mover m)) ≡ b → CoreStands (once_landed x landed) (landed_first (mover m) h)
    by_fence true e =
        let all = (first.fence (ap is_at_fence same ∙ e)).0 in
        let some = subst (λ n. LandsOldest n x.world landed m.who.found.vm) (how_many x h m.who.found.vm stands) all in
        rw e (all_landed (length (flight h m.who.found.vm)) x landed m.who.found.vm low some h stands)
    by_fence false e = rw e (subst (λ (w : World). CoreStands (once_landed x w) h) (sym (first.other (ap is_at_fence same ∙ e))) stands)

-- ---- one is sent

-- what a call says that sends one, of one history
pub record IsSending (x y : CoreState) (h : History) (vm addr value : ℕ) : Type 0 where
  pub at : Addressed x h vm
  pub room : length (flight_of x.world vm) < STORES_IN_FLIGHT
  pub aligned : addr % 4 ≡ 0
  pub sends : Sends (route_of (table_of x.world.tables vm) addr) x.world y.world vm (addr % PAGE) value
  pub leases : y.leases ≡ x.leases
  pub vcpus : y.vcpus ≡ x.vcpus
  pub selects : y.selects ≡ x.selects
  pub passes : y.passes ≡ x.passes

abbrev Answered : CoreState → CoreState → History → ℕ → ℕ → ℕ → Type 0
Answered x y h vm addr value =
    (r : Option Answer) × (refusal h (Send vm addr value) ≡ r) × (route_answer (route_of (table_of x.world.tables vm) addr) ≡ unwrap_or r Okay)
    × CoreStands y (line_served r h (Send vm addr value)) × ((word : Answer) → r ≡ Some word → y ≡ x)

has_room : (n : ℕ) → n < STORES_IN_FLIGHT → nat_le STORES_IN_FLIGHT n ≡ false
has_room n few = grind (arith, nat_tests)

-- the words that are left when the VM is there and has room, and the address is aligned
left : (x y : CoreState) (h : History) (vm addr value : ℕ) → IsSending x y h vm addr value
    → refusal h (Send vm addr value) ≡ cond (not (is_msi_address (mask_of h vm) addr)) (Some (Refused words.Other))
    (cond (not (has_vcpu h (named_by h vm addr))) (Some (Refused words.NotValid)) None)
left x y h vm addr value c =
    let rest = cond (not (is_msi_address (mask_of h vm) addr)) (Some (Refused words.Other))
    (cond (not (has_vcpu h (named_by h vm addr))) (Some (Refused words.NotValid)) None) in
    let aligned = cond (not (nat_eq (addr % 4) 0)) (Some (Refused words.Fault)) rest in
    let few : length (flight h vm) < STORES_IN_FLIGHT = subst (λ n. n < STORES_IN_FLIGHT) (how_many x h vm c.at.stands) c.room in
    send_refusal h vm addr value c.at.stands.there
    ∙ ap (λ b. cond (not b) (Some (Refused words.Range))
    (cond (nat_le STORES_IN_FLIGHT (length (flight h vm))) (Some (Refused words.Full)) aligned)) (vm_there x h vm c.at)
    ∙ ap (λ b. cond b (Some (Refused words.Full)) aligned) (has_room (length (flight h vm)) few)
    ∙ ap (λ b. cond (not b) (Some (Refused words.Fault)) rest) (eq-eqb (addr % 4) 0 c.aligned)

inside : (x y : CoreState) (h : History) (vm addr value : ℕ) → IsSending x y h vm addr value → is_msi_address (mask_of h vm) addr ≡ true
    → refusal h (Send vm addr value) ≡ cond (not (has_vcpu h (named_by h vm addr))) (Some (Refused words.NotValid)) None
inside x y h vm addr value c is = left x y h vm addr value c
    ∙ ap (λ b. cond (not b) (Some (Refused words.Other)) (cond (not (has_vcpu h (named_by h vm addr))) (Some (Refused words.NotValid)) None)) is

-- one that goes nowhere
nowhere : (x y : CoreState) (h : History) (vm addr value : ℕ) (route : Route) (word : Answer) → IsSending x y h vm addr value
    → refusal h (Send vm addr value) ≡ Some word → route_of (table_of x.world.tables vm) addr ≡ route → route_answer route ≡ word
    → (Sends route x.world y.world vm (addr % PAGE) value → y.world ≡ x.world) → Answered x y h vm addr value
nowhere x y h vm addr value route word c refuses is answers kept =
    let same : y.world ≡ x.world = kept (subst (λ (r : Route). Sends r x.world y.world vm (addr % PAGE) value) is c.sends) in
    let core = same_core x y same c.leases c.vcpus c.selects c.passes in
    (Some word, refuses, ap route_answer is ∙ answers, subst (λ z. CoreStands z h) (sym core) c.at.stands, λ other e. core)

-- one that is for a virtual hart that is there
sent_by : (o : Option GuestPlace) (q hart : ℕ) (w u : World) (vm offset value : ℕ) → Sends (leads_by (leads_to q hart o)) w u vm offset value
    → u ≡ with_flight w vm (flight_of w vm ++ record { entry = leads_to q hart o; offset = offset; value = value } ∷ [])
sent_by None q hart w u vm offset value sends = sends
sent_by (Some p) q hart w u vm offset value sends = sends

module _ (x y : CoreState) (h : History) (vm addr value : ℕ) (c : IsSending x y h vm addr value) (is : is_msi_address (mask_of h vm) addr ≡ true)
    (there : has_vcpu h (named_by h vm addr) ≡ true) where
  abbrev new : Sending
  new = record { before = h; addr = addr; value = value }

  abbrev stores : List Flying
  stores = flight_of x.world vm ++ flying_of vm new ∷ []

  route : route_of (table_of x.world.tables vm) addr ≡ leads_by
      (leads_to (slot_of (vms_of h) (named_by h vm addr)) (notice_hart (vms_of h) (named_by h vm addr)) (in_force_of h (named_by h vm addr)))
  route = own_route x h vm addr c.at is there

  sent : y.world ≡ with_flight x.world vm stores
  sent = sent_by (in_force_of h (named_by h vm addr)) (slot_of (vms_of h) (named_by h vm addr)) (notice_hart (vms_of h) (named_by h vm addr))
      x.world y.world vm (addr % PAGE) value
      (subst (λ (r : Route). Sends r x.world y.world vm (addr % PAGE) value) route c.sends)

  sent_core : y ≡ record x { world = with_flight x.world vm stores }
  sent_core = same_core (record x { world = with_flight x.world vm stores }) y sent c.leases c.vcpus c.selects c.passes

  in_its_list : vm < length x.world.flights
  in_its_list = omega (arith, c.at.low, c.at.whole.flights)

  with_new : (v : ℕ) → flight_of y.world v ≡ map (flying_of v) (flight (Accepted (Send vm addr value) ∷ h) v)
  with_new v = elim (cases_Bool (nat_eq vm v)) [
    | inl own ↦ subst (λ v. flight_of y.world v ≡ map (flying_of v) (flight (Accepted (Send vm addr value) ∷ h) v)) (eqb-true vm v own)
        (own_flight x y vm stores in_its_list (ap (λ (w : World). w.flights) sent)
        ∙ ap (λ xs. xs ++ flying_of vm new ∷ []) (c.at.stands.flights vm) ∙ sym (map-append (flying_of vm) (flight h vm) (new ∷ []))
        ∙ ap (map (flying_of vm)) (sym (sent_on h vm addr value vm ∙ cond-true _ _ _ (eq-eqb vm vm refl))))
    | inr other ↦
        other_flight x y vm stores in_its_list (ap (λ (w : World). w.flights) sent) v other ∙ c.at.stands.flights v
        ∙ ap (map (flying_of v)) (sym (sent_on h vm addr value v ∙ cond-false _ _ _ other))
  ]

  hosts : IsHosts h (Accepted (Send vm addr value))
  hosts = record { quiet = quiet_send h vm addr value; none = refl; guests = λ g. refl; majors = λ g m. refl }

  sent_becomes : Becomes x y h (Accepted (Send vm addr value))
  sent_becomes = subst (λ z. Becomes x z h (Accepted (Send vm addr value))) (sym sent_core)
      (with_flights x x h (Accepted (Send vm addr value)) (with_flight x.world vm stores).flights
      (changed x x h (Accepted (Send vm addr value)) (nothing_done x h (Accepted (Send vm addr value)) c.at.stands hosts (λ f inside. refl))
      c.at.stands))

  in_flight : Answered x y h vm addr value
  in_flight = (
    None,
    inside x y h vm addr value c is ∙ ap (λ b. cond (not b) (Some (Refused words.NotValid)) None) there,
    ap route_answer route ∙ goes_to (in_force_of h (named_by h vm addr)) (slot_of (vms_of h) (named_by h vm addr))
        (notice_hart (vms_of h) (named_by h vm addr)),
    stands_after x y h (Accepted (Send vm addr value)) sent_becomes (record { first = tt; one = there; flights = with_new })
        (none_passes x y h (Accepted (Send vm addr value)) (none_by_sending h vm addr value) tt c.passes c.at.stands) c.at.stands,
    λ word e. absurd (none-some word e),
  )

send_answered : (x y : CoreState) (h : History) (vm addr value : ℕ) → IsSending x y h vm addr value → Answered x y h vm addr value
send_answered x y h vm addr value c = elim (cases_Bool (is_msi_address (mask_of h vm) addr)) [
  | inl is ↦ elim (cases_Bool (has_vcpu h (named_by h vm addr))) [
    | inl there ↦ in_flight x y h vm addr value c is there
    | inr lacks ↦ nowhere x y h vm addr value (Fault entries.NotValid) (Refused words.NotValid) c
        (inside x y h vm addr value c is ∙ ap (λ b. cond (not b) (Some (Refused words.NotValid)) None) lacks)
        (lost_route x h vm addr c.at is lacks) refl (λ same. same)
  ]
  | inr none ↦ nowhere x y h vm addr value Other (Refused words.Other) c
      (left x y h vm addr value c ∙ ap (λ b. cond (not b) (Some (Refused words.Other))
      (cond (not (has_vcpu h (named_by h vm addr))) (Some (Refused words.NotValid)) None)) none)
      (no_route x h vm addr c.at none) refl (λ same. same)
]

pub send_taken : (x y : CoreState) (vm addr value : ℕ) (route : Route) → IsWhole x.world → vm < length x.world.vms
    → length (flight_of x.world vm) < STORES_IN_FLIGHT → addr % 4 ≡ 0 → route ≡ route_of (table_of x.world.tables vm) addr
    → Sends route x.world y.world vm (addr % PAGE) value → y.leases ≡ x.leases → y.vcpus ≡ x.vcpus → y.selects ≡ x.selects → y.passes ≡ x.passes
    → CoreTakes x y (Send vm addr value) (route_answer route)
send_taken x y vm addr value route whole low room aligned is sends leases vcpus selects passes =
    rw (is) (by_refusal x y (Send vm addr value) (route_answer (route_of (table_of x.world.tables vm) addr))
    (λ h stands. send_answered x y h vm addr value (record {
      at = record { stands = stands; whole = whole; low = low };
      room = room;
      aligned = aligned;
      sends = subst (λ (r : Route). Sends r x.world y.world vm (addr % PAGE) value) is sends;
      leases = leases;
      vcpus = vcpus;
      selects = selects;
      passes = passes;
    })))

-- ---- what is refused before

standing : (x : CoreState) (h : History) (vm : ℕ) → CoreStands x h → vm < length x.world.vms → has_vm h vm ≡ true
standing x h vm stands low = lt-ltb vm (length (vms_of h)) (subst (λ (vs : List Vm). vm < length vs) stands.vms low)

is_full_now : (n : ℕ) → STORES_IN_FLIGHT ≤ n → nat_le STORES_IN_FLIGHT n ≡ true
is_full_now n past = grind (arith, nat_tests)

pub no_vm_for_sending : (x : CoreState) (vm addr value : ℕ) → length x.world.vms ≤ vm → CoreTakes x x (Send vm addr value) (Refused words.Range)
no_vm_for_sending x vm addr value past = refused x (Send vm addr value) (Refused words.Range) (λ h stands.
    send_refusal h vm addr value stands.there ∙ cond-true _ _ _
    (ap not (le-ltb vm (length (vms_of h)) (subst (λ (vs : List Vm). length vs ≤ vm) stands.vms past))))

pub no_room_for_sending : (x : CoreState) (vm addr value : ℕ) → vm < length x.world.vms → STORES_IN_FLIGHT ≤ length (flight_of x.world vm)
    → CoreTakes x x (Send vm addr value) (Refused words.Full)
no_room_for_sending x vm addr value low past = refused x (Send vm addr value) (Refused words.Full) (λ h stands.
    send_refusal h vm addr value stands.there ∙ cond-false _ _ _ (ap not (standing x h vm stands low))
    ∙ cond-true _ _ _ (is_full_now (length (flight h vm)) (subst (λ n. STORES_IN_FLIGHT ≤ n) (how_many x h vm stands) past)))

pub misaligned_sending : (x : CoreState) (vm addr value : ℕ) → vm < length x.world.vms → length (flight_of x.world vm) < STORES_IN_FLIGHT
    → addr % 4 ≢ 0 → CoreTakes x x (Send vm addr value) (Refused words.Fault)
misaligned_sending x vm addr value low room off = refused x (Send vm addr value) (Refused words.Fault) (λ h stands.
    send_refusal h vm addr value stands.there ∙ cond-false _ _ _ (ap not (standing x h vm stands low))
    ∙ cond-false _ _ _ (has_room (length (flight h vm)) (subst (λ n. n < STORES_IN_FLIGHT) (how_many x h vm stands) room))
    ∙ cond-true _ _ _ (ap not (ne_eqb (addr % 4) 0 off)))

-- ---- the line that lands one

pub land_taken : (x y : CoreState) (vm k : ℕ) → IsLanding x y vm k → k < length (flight_of x.world vm) → CoreTakes x y (Land vm k) Okay
land_taken x y vm k c low = by_refusal x y (Land vm k) Okay (λ h stands. (
  None,
  land_refusal h vm k stands.there ∙ cond-false _ _ _ (ap not (lt-ltb k (length (flight h vm)) (subst (λ n. k < n) (how_many x h vm stands) low))),
  refl,
  landing_stands x y h vm k c stands,
  λ word e. absurd (none-some word e),
))

pub none_to_land : (x : CoreState) (vm k : ℕ) → length (flight_of x.world vm) ≤ k → CoreTakes x x (Land vm k) (Refused words.Range)
none_to_land x vm k past = refused x (Land vm k) (Refused words.Range) (λ h stands.
    land_refusal h vm k stands.there ∙ cond-true _ _ _ (ap not (le-ltb k (length (flight h vm)) (subst (λ n. n ≤ k) (how_many x h vm stands) past))))

-- no VM, no store of it in flight
past_lists : {A : Type 0} (lists : List (List A)) (v : ℕ) → length lists ≤ v → get_or lists v [] ≡ []
past_lists lists v past = get_or_past lists v [] past

pub no_vm_for_landing : (x : CoreState) (vm k : ℕ) → IsWhole x.world → length x.world.vms ≤ vm → CoreTakes x x (Land vm k) (Refused words.Range)
no_vm_for_landing x vm k whole past =
    let none : flight_of x.world vm ≡ [] = past_lists x.world.flights vm (omega (arith, past, whole.flights)) in
    none_to_land x vm k (let few : length (flight_of x.world vm) ≡ 0 = ap length none in omega (arith, few))
