-- A store on a fabric keeps what is known of the places of a virtual hart, moved or at rest.
use Rattle.std.proofs.Common.{◌≡◌, ◌≢◌, ℕ, ◌+◌, ◌/◌, Bool, true, Option, Some, None, inl, inr, refl, sym, ap, ◌∙◌, subst}
use Rattle.std.proofs.lemmas.Bool.{cond-true}
use Rattle.aia_regs.specs.declared.limits.TheConstants.{IDENTITIES}
use Rattle.aia_regs.specs.AddressMap.{supervisor_page}
use Rattle.aia_regs.specs.Request.{requested}
use Rattle.aia_file.specs.InterruptFile.{InterruptFile, landed}
use Rattle.aia_file.specs.FileState.{shown}
use Rattle.aia_file.specs.declared.spot.Spot.{Spot}
use Rattle.aia_file.specs.declared.spot.Spot.TheVariants.{SupervisorFile}
use Rattle.aia_file.specs.Imsic.{ImsicState, IsThere, file_at}
use Rattle.aia_file.proofs.PlaceLemmas.{kept_elsewhere}
use Rattle.aia_file.specs.declared.stored.Stored.{Stored}
use Rattle.aia_file.specs.declared.stored.Stored.TheVariants.{Discarded, Quiet, Notice}
use Rattle.aia_file.specs.Mrif.{mrif_in, stored}
use Rattle.aia_entry.specs.declared.table.Route.{Route}
use Rattle.aia_entry.specs.Tables.{table_of, entry_in_force, leads_by, route_of}
use Rattle.aia_entry.specs.Translation.{is_msi_address, file_number}
use Rattle.aia_vcpu.specs.declared.place.GuestPlace.{GuestPlace}
use Rattle.aia_vcpu.specs.Vms.{Vcpu, is_vcpu_in, slot_of, notice_identity, notice_hart}
use Rattle.aia_vcpu.specs.Home.{holds}
use Rattle.aia_vcpu.specs.BySteps.{own_file, next_file}
use Rattle.aia_vcpu.specs.Routes.{peers_reach, MayReach, MayLand}
use Rattle.aia_vcpu.proofs.RouteLemmas.{reach_lands, peers_may}
use Rattle.aia_vcpu_places.specs.Places.{Places, leads_to}
use Rattle.aia_vcpu_places.specs.Holds.{Holds, IsWithin}
use Rattle.aia_vcpu_places.specs.Stores.{places_landed, AreApart}
use Rattle.aia_vcpu_places.proofs.StoreLemmas.{lands}
use Rattle.aia_fabric_values.specs.World.{World, stage_of}
use Rattle.aia_fabric_values.specs.Whole.{IsWhole}
use Rattle.aia_fabric_values.specs.Stores.{StoresIn, StoresInGuestFile, NoticedBy, StoresInSlot, Reaches, ReachesBy, ReachesByRecord, with_store, page_spot}
use Rattle.aia_fabric_values.specs.Changes.{spot_of, file_in}
use Rattle.aia_move_values.specs.Views.{places_of}
use Rattle.aia_move_values.specs.Own.{TouchesOwn}
use Rattle.aia_vcpu.proofs.HomeLemmas.{either_file, landing_is_held}
use Rattle.aia_move_values.proofs.OwnLemmas.{by_entry, guest_spot, touches_file, touches_slot, others_stay}
use Rattle.aia_fabric_values.proofs.PlaceLemmas.{slot_found, host_page, named_guest}
use Rattle.aia_move_values.proofs.StoreViews.{file_store-places, slot_store-places}
use Rattle.aia_move_values.proofs.ViewLemmas.{posts-places, slot_low}
use Rattle.aia_fabric_values.proofs.WholeLemmas.{notice_hart_there}
use Rattle.aia_move_values.specs.Move.{Moving, mover, width, MoveFits}
use Rattle.aia_move_values.specs.PlanState.{PlanState, moving_of}
use Rattle.aia_move_values.specs.Touches.{SameMachine}
use Rattle.aia_move_values.specs.Knows.{Knows}
use Rattle.aia_move_values.specs.Plan.{IsInPhase}
use Rattle.aia_move_values.proofs.StepLemmas.{fits_still}
use Rattle.aia_move_values.proofs.MadeView.{few_words}
use Rattle.aia_move_values.proofs.MoveKept.{file_in-size}
use Rattle.aia_regs.specs.declared.address_map.TheConstants.{PAGE}

-- ---- what is known

-- of a virtual hart that is moved, or at rest; Q: what else is known, by the number of words
pub record KnowsPlaces (Q : ℕ → Type 0) (w : World) (m : Moving) (reach : Option GuestPlace) (file : InterruptFile) (saw : Bool) : Type 0 where
  pub fits : MoveFits w m
  pub phase : Q (width w)
  pub holds : Holds (width w) m.who.found.slot m.who.found.notice reach (places_of w (mover m) m.home) m.home m.hand file saw

-- of a plan: that it is in its phase
abbrev pub InPhase : PlanState → ℕ → Type 0
InPhase plan words = IsInPhase words plan

pub of_plan : (w : World) (plan : PlanState) (reach : Option GuestPlace) (file : InterruptFile) (saw : Bool) → Knows w plan reach file saw
    → KnowsPlaces (InPhase plan) w (moving_of plan) reach file saw
of_plan w plan reach file saw knows = record { fits = knows.fits; phase = knows.phase; holds = knows.holds }

pub to_plan : (w : World) (plan : PlanState) (reach : Option GuestPlace) (file : InterruptFile) (saw : Bool)
    → KnowsPlaces (InPhase plan) w (moving_of plan) reach file saw → Knows w plan reach file saw
to_plan w plan reach file saw knows = record { fits = knows.fits; phase = knows.phase; holds = knows.holds }

-- ---- in a world of the same machine with other places

pub own_machine : (w u : World) (g : Vcpu) (place : Option GuestPlace) → TouchesOwn w u g place → SameMachine w u
own_machine w u g place t = record {
  n = ap (λ (x : World). x.n) t.rest;
  vms = ap (λ (x : World). x.vms) t.rest;
  harts = ap (λ (x : World). x.imsic.harts) t.rest;
  guests = ap (λ (x : World). x.imsic.guests) t.rest;
}

module _ (w u : World) (Q : ℕ → Type 0) (m : Moving) (reach : Option GuestPlace) (saw : Bool) (same : SameMachine w u) where
  pub knows_by : (file after : InterruptFile) → KnowsPlaces Q w m reach file saw → (v : Places) → places_of u (mover m) m.home ≡ v
      → Holds (width w) m.who.found.slot m.who.found.notice reach v m.home m.hand after saw → KnowsPlaces Q u m reach after saw
  knows_by file after knows v seen held = record {
    fits = fits_still w u m same knows.fits;
    phase = subst (λ n. Q ((n + 1) / 64)) (sym same.n) knows.phase;
    holds = subst (λ n. Holds ((n + 1) / 64) m.who.found.slot m.who.found.notice reach (places_of u (mover m) m.home) m.home m.hand after saw)
        (sym same.n)
        (subst (λ (z : Places). Holds (width w) m.who.found.slot m.who.found.notice reach z m.home m.hand after saw) (sym seen) held);
  }

-- ---- a store for the virtual hart that is moved

-- where it lands: in a guest file, or in the slot
abbrev pub Lands : World → World → Vcpu → Option GuestPlace → ℕ → ℕ → Type 0
Lands w u g (Some p) offset value = StoresIn w u (spot_of p) offset value
Lands w u g None offset value = StoresInSlot w u (Some (slot_of w.vms g)) (SupervisorFile (notice_hart w.vms g)) (notice_identity w.vms g)
    offset value

held_there : (w : World) (m : Moving) → MoveFits w m → (p : GuestPlace) → holds p m.home ≡ true → IsThere w.imsic (spot_of p)
held_there w m fits p held = elim (either_file p m.home held) [ inl own ↦ fits.own p own | inr next ↦ fits.next p next ]

module _ (w u : World) (Q : ℕ → Type 0) (m : Moving) (reach : Option GuestPlace) (file : InterruptFile) (saw : Bool) (offset value : ℕ) (whole :
    IsWhole w)
    (apart : AreApart m.home) (within : IsWithin w.n (width w) file) (knows : KnowsPlaces Q w m reach file saw) where
  -- it shows in its places
  by_outcome : (became : Stored) → NoticedBy became (with_store w (slot_of w.vms (mover m)) offset value) u
      (SupervisorFile (notice_hart w.vms (mover m))) (notice_identity w.vms (mover m))
      → places_of u (mover m) m.home ≡ places_of (with_store w (slot_of w.vms (mover m)) offset value) (mover m) m.home
  by_outcome Notice posts = posts-places (with_store w (slot_of w.vms (mover m)) offset value) u (mover m) m.home
      (notice_hart w.vms (mover m)) (notice_identity w.vms (mover m))
      (notice_hart_there w (mover m) whole knows.fits.there) knows.fits.own knows.fits.next posts
  by_outcome Quiet same = ap (λ (x : World). places_of x (mover m) m.home) same
  by_outcome Discarded same = ap (λ (x : World). places_of x (mover m) m.home) same

  shows : (place : Option GuestPlace) → MayLand (width w) m.home place → Lands w u (mover m) place offset value
      → (places_of u (mover m) m.home ≡ places_landed place m.home offset value (places_of w (mover m) m.home)) × SameMachine w u
  shows (Some p) may stores =
      let held = landing_is_held (width w) m.home (Some p) p may refl in
      let here = held_there w m knows.fits p held in (
        file_store-places w u (mover m) p offset value whole here stores m.home held apart knows.fits.own knows.fits.next,
        own_machine w u (mover m) (Some p) (touches_file w u (mover m) p offset value whole knows.fits.there here stores),
      )
  shows None may stores = (
    by_outcome (stored (mrif_in w.memory (slot_of w.vms (mover m))) (requested IDENTITIES offset value)) stores
        ∙ slot_store-places w (mover m) m.home (slot_of w.vms (mover m)) offset value whole (slot_low w (mover m) whole knows.fits.there) refl,
    own_machine w u (mover m) None (touches_slot w u (mover m) offset value whole knows.fits.there stores),
  )

  pub lands_knows : (place : Option GuestPlace) → MayLand (width w) m.home place → Lands w u (mover m) place offset value
      → KnowsPlaces Q u m reach (landed offset value file) saw
  lands_knows place may stores =
      let both = shows place may stores in
      knows_by w u Q m reach saw both.1 file (landed offset value file) knows
      (places_landed place m.home offset value (places_of w (mover m) m.home)) both.0
      (lands w.n (width w) m.who.found.slot m.who.found.notice offset value reach (places_of w (mover m) m.home) m.hand file saw within
      (few_words w.n whole.greatest) m.home
      (file_in-size w (own_file m.home) whole knows.fits.own) (file_in-size w (next_file m.home) whole knows.fits.next) apart place may knows.holds)

  -- a device's, where its entry in force leads
  entry_lands : (place : Option GuestPlace) → MayLand (width w) m.home place
      → Reaches (leads_by (leads_to (slot_of w.vms (mover m)) (notice_hart w.vms (mover m)) place)) w u offset value
      → Lands w u (mover m) place offset value
  entry_lands (Some p) may reaches = subst (λ (s : Spot). StoresInGuestFile w u s offset value)
      (guest_spot w.imsic p whole.harts whole.guests (held_there w m knows.fits p (landing_is_held (width w) m.home (Some p) p may refl))) reaches
  entry_lands None may reaches =
      let hart = notice_hart_there w (mover m) whole knows.fits.there in
      subst (λ (s : Spot). StoresInSlot w u (Some (slot_of w.vms (mover m))) s (slot_of w.vms (mover m) + 1) offset value)
      (host_page w.imsic (notice_hart w.vms (mover m)) hart whole.harts)
      (subst (λ (o : Option ℕ). StoresInSlot w u o (page_spot w.imsic (supervisor_page (notice_hart w.vms (mover m)) / PAGE))
      (slot_of w.vms (mover m) + 1) offset value) (slot_found (slot_of w.vms (mover m)) (slot_low w (mover m) whole knows.fits.there)) reaches)

  entry_is : entry_in_force (table_of w.tables m.who.found.vm) m.who.found.vcpu ≡ leads_to (slot_of w.vms (mover m))
      (notice_hart w.vms (mover m)) reach
  entry_is = knows.holds.routes.in_force ∙ ap (λ q. leads_to q m.who.found.notice reach) knows.fits.slot
      ∙ ap (λ hart. leads_to (slot_of w.vms (mover m)) hart reach) knows.fits.notice

  pub device_knows : (addr : ℕ) → is_msi_address (table_of w.tables m.who.found.vm).mask addr ≡ true
      → file_number (table_of w.tables m.who.found.vm).mask addr ≡ m.who.found.vcpu
      → Reaches (route_of (table_of w.tables m.who.found.vm) addr) w u offset value → KnowsPlaces Q u m reach (landed offset value file) saw
  device_knows addr is names reaches =
      let may = reach_lands (width w) m.home reach knows.holds.routes.may in
      let route : route_of (table_of w.tables m.who.found.vm) addr ≡ leads_by
      (leads_to (slot_of w.vms (mover m)) (notice_hart w.vms (mover m)) reach) =
      cond-true _ _ _ is ∙ ap (λ k. leads_by (entry_in_force (table_of w.tables m.who.found.vm) k)) names ∙ ap leads_by entry_is in
      lands_knows reach may (entry_lands reach may (subst (λ (r : Route). Reaches r w u offset value) route reaches))

-- one that was in flight, where the entry led as it was sent
pub flight_knows : (w u : World) (Q : ℕ → Type 0) (m : Moving) (reach place : Option GuestPlace) (file : InterruptFile) (saw : Bool) (offset value :
    ℕ)
    → IsWhole w → AreApart m.home → IsWithin w.n (width w) file → KnowsPlaces Q w m reach file saw
    → MayReach m.home place → ReachesBy (leads_to m.who.found.slot m.who.found.notice place) w u
    offset value → KnowsPlaces Q u m reach (landed offset value file) saw
flight_knows w u Q m reach place file saw offset value whole apart within knows may reaches =
    let land = reach_lands (width w) m.home place may in
    let own : ReachesBy (leads_to (slot_of w.vms (mover m)) (notice_hart w.vms (mover m)) place) w u offset value =
    subst (λ q. ReachesBy (leads_to q (notice_hart w.vms (mover m)) place) w u offset value) knows.fits.slot
    (subst (λ hart. ReachesBy (leads_to m.who.found.slot hart place) w u offset value) knows.fits.notice reaches) in
    lands_knows w u Q m reach file saw offset value whole apart within knows place land
    (entry_lands w u Q m reach file saw offset value whole apart within knows place land
    (by_entry place (slot_of w.vms (mover m)) (notice_hart w.vms (mover m)) w u offset value own))

-- a peer's, where its G-stage record in force leads
pub peer_knows : (w u : World) (Q : ℕ → Type 0) (m : Moving) (reach : Option GuestPlace) (file : InterruptFile) (saw : Bool) (value : ℕ) → IsWhole w
    → AreApart m.home → IsWithin w.n (width w) file → KnowsPlaces Q w m reach file saw
    → ReachesByRecord (stage_of w (mover m)).in_force w u (mover m) value → KnowsPlaces Q u m reach (landed 0 value file) saw
peer_knows w u Q m reach file saw value whole apart within knows relays =
    let may = peers_may (width w) m.home in
    lands_knows w u Q m reach file saw 0 value whole apart within knows (peers_reach m.home) may
    (relayed (peers_reach m.home) may (subst (λ (o : Option GuestPlace). ReachesByRecord o w u (mover m) value)
    knows.holds.routes.stage_in_force relays))
  where
    relayed : (place : Option GuestPlace) → MayLand (width w) m.home place
        → ReachesByRecord place w u (mover m) value → Lands w u (mover m) place 0 value
    relayed (Some p) may relays = subst (λ (s : Spot). StoresInGuestFile w u s 0 value)
        (named_guest w.imsic p (held_there w m knows.fits p
        (landing_is_held (width w) m.home (Some p) p may refl))) relays
    relayed None may relays = relays

-- ---- a store for another virtual hart, and one of the host

pub others_know : (w u : World) (Q : ℕ → Type 0) (m : Moving) (reach : Option GuestPlace) (file : InterruptFile) (saw : Bool) (g : Vcpu)
    (place : Option GuestPlace) → KnowsPlaces Q w m reach file saw
    → is_vcpu_in w.vms g ≡ true → g ≢ mover m → TouchesOwn w u g place
    → ((p : GuestPlace) → holds p m.home ≡ true → place ≢ Some p) → KnowsPlaces Q u m reach file saw
others_know w u Q m reach file saw g place knows there other t elsewhere =
    knows_by w u Q m reach saw (own_machine w u g place t) file file knows (places_of w (mover m) m.home)
    (others_stay w u g (mover m) place m.home there knows.fits.there (λ e. other (sym e)) t
    (λ p held. (held_there w m knows.fits p held, elsewhere p held))) knows.holds

pub host_knows : (w u : World) (Q : ℕ → Type 0) (m : Moving) (reach : Option GuestPlace) (file : InterruptFile) (saw : Bool) (spot : Spot) (offset
    value : ℕ)
    → KnowsPlaces Q w m reach file saw
    → IsThere w.imsic spot → ((p : GuestPlace) → spot ≢ spot_of p) → StoresIn w u spot offset value → KnowsPlaces Q u m reach file saw
host_knows w u Q m reach file saw spot offset value knows here no_guest s =
    knows_by w u Q m reach saw machine file file knows (places_of w (mover m) m.home) seen knows.holds
  where
    machine : SameMachine w u
    machine = record {
      n = ap (λ (x : World). x.n) s.rest;
      vms = ap (λ (x : World). x.vms) s.rest;
      harts = ap (λ (i : ImsicState). i.harts) s.lands.others;
      guests = ap (λ (i : ImsicState). i.guests) s.lands.others;
    }

    kept : (o : Option GuestPlace) → ((p : GuestPlace) → o ≡ Some p → IsThere w.imsic (spot_of p)) → file_in u o ≡ file_in w o
    kept None inside = ap (λ (x : World). file_in x None) s.rest
    kept (Some p) inside = ap (λ (i : ImsicState). file_in (record w { imsic = i }) (Some p)) s.lands.others
        ∙ ap shown (kept_elsewhere w.imsic spot (spot_of p) (file_at u.imsic spot) here (inside p refl) (λ e. no_guest p (sym e)))

    seen : places_of u (mover m) m.home ≡ places_of w (mover m) m.home
    seen =
        let own = kept (own_file m.home) knows.fits.own in
        let next = kept (next_file m.home) knows.fits.next in
        (λ k. record (places_of (s.rest k) (mover m) m.home)
        { own = file_in u (own_file m.home); next = file_in u (next_file m.home) })
        ∙ (λ k. record (places_of w (mover m) m.home) { own = own k; next = next k })
