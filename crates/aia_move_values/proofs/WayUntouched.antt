-- A guest file to which nothing leads keeps what it holds, whatever happens but to itself; and all
-- are empty as a machine is made.
use Rattle.std.proofs.Common.{◌≡◌, ◌≢◌, ℕ, zero, suc, ◌*◌, ◌%◌, ◌<◌, ◌≤◌, Bool, true, false, length, Option, Some, None, inl, inr, refl, sym, ap, ◌∙◌, subst}
use Rattle.std.specs.Option.{option_map}
use Rattle.std.proofs.lemmas.Bool.{cases_Bool, cond-true, cond-false}
use Rattle.aia_regs.specs.declared.limits.TheConstants.{IDENTITIES}
use Rattle.aia_regs.specs.declared.address_map.TheConstants.{PAGE}
use Rattle.aia_regs.specs.Request.{requested}
use Rattle.aia_file.specs.InterruptFile.{InterruptFile}
use Rattle.aia_file.specs.FileState.{FileState, shown}
use Rattle.aia_file.specs.declared.spot.Spot.{Spot}
use Rattle.aia_file.specs.declared.spot.Spot.TheVariants.{MachineFile, SupervisorFile, GuestFile, Nowhere}
use Rattle.aia_file.specs.declared.stored.Stored.{Stored}
use Rattle.aia_file.specs.declared.stored.Stored.TheVariants.{Notice, Quiet, Discarded}
use Rattle.aia_file.specs.Imsic.{ImsicState, IsThere, file_at, with_file}
use Rattle.aia_file.specs.Mrif.{mrif_in, stored}
use Rattle.aia_file.proofs.FileLemmas.{same_file}
use Rattle.aia_file.proofs.PlaceLemmas.{kept_elsewhere}
use Rattle.aia_file.proofs.MapLemmas.{machine_of_spot, host_of_spot, guest_of_spot}
use Rattle.aia_entry.specs.declared.entry.Entry.{Entry}
use Rattle.aia_entry.specs.declared.entry.Entry.TheVariants.{Basic, Mrif, NotValid, Custom, Misconfigured}
use Rattle.aia_entry.specs.declared.table.Route.{Route}
use Rattle.aia_entry.specs.declared.table.Route.TheVariants.{To, Other, Fault}
use Rattle.aia_entry.specs.Tables.{table_of, entry_in_force, leads_by, route_of}
use Rattle.aia_entry.specs.Translation.{is_msi_address, file_number}
use Rattle.aia_vcpu.specs.declared.place.GuestPlace.{GuestPlace}
use Rattle.aia_vcpu.specs.Vms.{Vcpu, vcpu_of, is_vcpu_in, slot_of, notice_identity, notice_hart}
use Rattle.aia_vcpu.specs.Routes.{is_at_fence}
use Rattle.aia_vcpu.specs.Home.{holds}
use Rattle.aia_vcpu_places.specs.Holds.{Hand, IsEmpty}
use Rattle.aia_fabric_values.specs.declared.at.At.TheVariants.{File}
use Rattle.aia_fabric_values.specs.World.{World, flight_of, stage_of}
use Rattle.aia_fabric_values.specs.Whole.{IsWhole}
use Rattle.aia_fabric_values.specs.Making.{IsNew}
use Rattle.aia_fabric_values.specs.Changes.{spot_of, file_in}
use Rattle.aia_fabric_values.specs.Flights.{Sends, Lands, LandsOldest, Fences}
use Rattle.aia_fabric_values.specs.Stores.{StoresIn, StoresInGuestFile, NoticedAt, NoticedBy, StoresInSlot, ReachesBy, Reaches, ReachesByRecord, with_store, page_spot, slot_at, named_spot}
use Rattle.aia_fabric_values.proofs.WholeLemmas.{notice_hart_there}
use Rattle.aia_move_values.specs.Move.{Moving, MoveFits, MakesNext}
use Rattle.aia_move_values.specs.PlanState.{moving_of}
use Rattle.aia_move_values.specs.Touches.{SameMachine, sends}
use Rattle.aia_move_values.specs.Landings.{LandsFirst}
use Rattle.aia_move_values.specs.Ways.{guest_at, led_by_entry, led_by_route, led_by_record, NothingLeadsTo}
use Rattle.aia_move_values.specs.WorldChanges.{WorldChange, IsUntouched}
use Rattle.aia_move_values.specs.WorldChanges.WorldChange.{DeviceStores, PeerStores, StoreIsSent, StoreLands, StoreIsTaken, MsiLands, MsiIsRelayed, EntryIsRead, EntryIsFenced, SlotIsReached, FileIsReached, MoveSteps, VmIsMade}
use Rattle.aia_move_values.proofs.StepLemmas.{file_stays}
use Rattle.aia_move_values.proofs.TouchLemmas.{step_touches}
use Rattle.aia_move_values.proofs.WayLemmas.{named_there}
use Rattle.aia_move_values.proofs.WayKnows.{route_leads}
use Rattle.aia_move_values.proofs.WayFences.{landed_machine, same_then}
use Rattle.aia_move_values.proofs.WayMoves.{fence_step}
use Rattle.aia_move_values.proofs.WayFree.{all_landed_free}

-- ---- one store

module _ (w u : World) (p : GuestPlace) (offset value : ℕ) (whole : IsWhole w) (there : IsThere w.imsic (spot_of p)) where
  abbrev kept : Type 0
  kept = file_at u.imsic (spot_of p) ≡ file_at w.imsic (spot_of p)

  -- another file is replaced
  other_file : (spot : Spot) → IsThere w.imsic spot → spot ≢ spot_of p → u.imsic ≡ with_file w.imsic spot (file_at u.imsic spot) → kept
  other_file spot here other e = ap (λ (i : ImsicState). file_at i (spot_of p)) e
      ∙ kept_elsewhere w.imsic spot (spot_of p) (file_at u.imsic spot) here there (λ same. other (sym same))

  same_world : u ≡ w → kept
  same_world e = ap (λ (x : World). file_at x.imsic (spot_of p)) e

  -- a guest file takes it
  in_guest_file : (spot : Spot) → ((q : GuestPlace) → spot ≡ spot_of q → IsThere w.imsic (spot_of q)) → guest_at spot ≢ Some (File (spot_of p))
      → StoresInGuestFile w u spot offset value → kept
  in_guest_file (GuestFile hart file) is other s = other_file (GuestFile hart file) (is (record { hart = hart; file = file }) refl)
      (λ e. other (ap guest_at e)) s.lands.others
  in_guest_file (MachineFile hart) is other same = same_world same
  in_guest_file (SupervisorFile hart) is other same = same_world same
  in_guest_file Nowhere is other same = same_world same

  -- a slot takes it, which may send a notice
  noticed : (q : ℕ) (spot : Spot) (identity : ℕ) → ((hart : ℕ) → spot ≡ MachineFile hart → hart < w.imsic.harts)
      → ((hart : ℕ) → spot ≡ SupervisorFile hart → hart < w.imsic.harts) → NoticedAt (with_store w q offset value) u spot identity → kept
  noticed q (MachineFile hart) identity machine host posts = other_file (MachineFile hart) (machine hart refl) (λ e. absurd (cc)) posts.lands.others
  noticed q (SupervisorFile hart) identity machine host posts =
      other_file (SupervisorFile hart) (host hart refl) (λ e. absurd (cc)) posts.lands.others
  noticed q (GuestFile hart file) identity machine host same = ap (λ (x : World). file_at x.imsic (spot_of p)) same
  noticed q Nowhere identity machine host same = ap (λ (x : World). file_at x.imsic (spot_of p)) same

  by_outcome : (became : Stored) (q : ℕ) (spot : Spot) (identity : ℕ) → ((hart : ℕ) → spot ≡ MachineFile hart → hart < w.imsic.harts)
      → ((hart : ℕ) → spot ≡ SupervisorFile hart → hart < w.imsic.harts) → NoticedBy became (with_store w q offset value) u spot identity → kept
  by_outcome Notice q spot identity machine host posts = noticed q spot identity machine host posts
  by_outcome Quiet q spot identity machine host same = ap (λ (x : World). file_at x.imsic (spot_of p)) same
  by_outcome Discarded q spot identity machine host same = ap (λ (x : World). file_at x.imsic (spot_of p)) same

  in_slot : (o : Option ℕ) (spot : Spot) (identity : ℕ) → ((hart : ℕ) → spot ≡ MachineFile hart → hart < w.imsic.harts)
      → ((hart : ℕ) → spot ≡ SupervisorFile hart → hart < w.imsic.harts) → StoresInSlot w u o spot identity offset value → kept
  in_slot None spot identity machine host same = same_world same
  in_slot (Some q) spot identity machine host s =
      by_outcome (stored (mrif_in w.memory q) (requested IDENTITIES offset value)) q spot identity machine host s

  -- an entry, a route and a record that do not lead there
  by_entry : (e : Entry) → led_by_entry w e ≢ Some (File (spot_of p)) → ReachesBy e w u offset value → kept
  by_entry (Basic page) other s = in_guest_file (page_spot w.imsic page) (λ q e.
      let found = guest_of_spot w.imsic.harts w.imsic.guests (page * PAGE) q.hart q.file e in (found.0, found.1, found.2)) other s
  by_entry (Mrif addr page identity) other s = in_slot (slot_at addr) (page_spot w.imsic page) identity
      (λ hart e. (machine_of_spot w.imsic.harts w.imsic.guests (page * PAGE) hart e).0)
      (λ hart e. (host_of_spot w.imsic.harts w.imsic.guests (page * PAGE) hart e).0) s
  by_entry NotValid other same = same_world same
  by_entry Custom other same = same_world same
  by_entry Misconfigured other same = same_world same

  by_route : (r : Route) → led_by_route w r ≢ Some (File (spot_of p)) → Reaches r w u offset value → kept
  by_route (To e) other s = by_entry e other s
  by_route Other other same = same_world same
  by_route (Fault e) other same = same_world same

by_record : (w u : World) (p : GuestPlace) (value : ℕ) → IsWhole w → IsThere w.imsic (spot_of p) → (g : Vcpu) (place : Option GuestPlace)
    → is_vcpu_in w.vms g ≡ true → led_by_record w g place ≢ Some (File (spot_of p)) → ReachesByRecord place w u g value
    → file_at u.imsic (spot_of p) ≡ file_at w.imsic (spot_of p)
by_record w u p value whole there g (Some q) is other s = in_guest_file w u p 0 value whole there (named_spot w.imsic q) (named_there w.imsic q)
    other s
by_record w u p value whole there g None is other s = in_slot w u p 0 value whole there (Some (slot_of w.vms g))
    (SupervisorFile (notice_hart w.vms g)) (notice_identity w.vms g) (λ hart e. absurd (cc))
    (λ hart e. subst (λ h. h < w.imsic.harts) (let same : notice_hart w.vms g ≡ hart = cc in same) (notice_hart_there w g whole is)) s

-- ---- stores in flight

abbrev same_files : (w u : World) (p : GuestPlace) → Type 0
same_files w u p = file_at u.imsic (spot_of p) ≡ file_at w.imsic (spot_of p)

sent_kept : (w u : World) (p : GuestPlace) (r : Route) (vm offset value : ℕ) → Sends r w u vm offset value → same_files w u p
sent_kept w u p (To e) vm offset value sends = ap (λ (x : World). file_at x.imsic (spot_of p)) sends
sent_kept w u p Other vm offset value same = ap (λ (x : World). file_at x.imsic (spot_of p)) same
sent_kept w u p (Fault e) vm offset value same = ap (λ (x : World). file_at x.imsic (spot_of p)) same

landed_kept : (w u : World) (p : GuestPlace) (vm k : ℕ) → IsWhole w → IsThere w.imsic (spot_of p) → NothingLeadsTo w (File (spot_of p))
    → Lands w u vm k → same_files w u p
landed_kept w u p vm k whole there free l = ap (λ (x : World). file_at x.imsic (spot_of p)) l.taken
    ∙ by_entry w l.stored p l.store.offset l.store.value whole there l.store.entry (free.flights vm k l.store l.is) l.reaches

all_machine : (count : ℕ) (w u : World) (vm : ℕ) → LandsOldest count w u vm → SameMachine w u
all_machine zero w u vm same =
    subst (λ (x : World). SameMachine w x) (sym same) (record { n = refl; vms = refl; harts = refl; guests = refl })
all_machine (suc count) w u vm (mid, before, whole, l) =
    same_then w mid u (all_machine count w mid vm before) (landed_machine mid u vm 0 l)

all_kept : (count : ℕ) (w u : World) (p : GuestPlace) (vm : ℕ) → IsThere w.imsic (spot_of p) → NothingLeadsTo w (File (spot_of p))
    → LandsOldest count w u vm → same_files w u p
all_kept zero w u p vm there free same = ap (λ (x : World). file_at x.imsic (spot_of p)) same
all_kept (suc count) w u p vm there free (mid, before, whole, l) =
    landed_kept mid u p vm 0 whole (file_stays w mid p (all_machine count w mid vm before) there)
    (all_landed_free count w mid (File (spot_of p)) vm free before) l
    ∙ all_kept count w mid p vm there free before

fence_kept : (w u : World) (p : GuestPlace) (vm vcpu : ℕ) → IsThere w.imsic (spot_of p) → NothingLeadsTo w (File (spot_of p)) → Fences w u vm vcpu
    → same_files w u p
fence_kept w u p vm vcpu there free f = ap (λ (x : World). file_at x.imsic (spot_of p)) f.fenced
    ∙ all_kept (length (flight_of w vm)) w f.landed p vm there free f.lands

-- ---- a move steps

step_kept : (w landed u : World) (p : GuestPlace) (o : Moving) (hand : Hand) → IsWhole w → MoveFits w o → IsThere w.imsic (spot_of p)
    → NothingLeadsTo w (File (spot_of p)) → holds p o.home ≡ false → LandsFirst w o landed → MakesNext landed o u hand → same_files w u p
step_kept w landed u p o hand whole fits there free none first step = by_fence (is_at_fence o.home) refl
  where
    by_fence : (b : Bool) → is_at_fence o.home ≡ b → same_files w u p
    by_fence true at = fence_kept w u p o.who.found.vm o.who.found.vcpu there free (fence_step w landed u o hand first step at)
    by_fence false other =
        (step_touches w u o hand whole fits (subst (λ (x : World). MakesNext x o u hand) (first.other other) step)).guest_files p there none

-- ---- all of it

-- a route that leads to the file is an entry's
no_route : (w : World) (p : GuestPlace) (v addr : ℕ) → NothingLeadsTo w (File (spot_of p))
    → led_by_route w (route_of (table_of w.tables v) addr) ≢ Some (File (spot_of p))
no_route w p v addr free led = elim (cases_Bool (is_msi_address (table_of w.tables v).mask addr)) [
  | inl is ↦
      let e = entry_in_force (table_of w.tables v) (file_number (table_of w.tables v).mask addr) in
      let route : route_of (table_of w.tables v) addr ≡ leads_by e = cond-true _ _ _ is in
      free.entries (vcpu_of v (file_number (table_of w.tables v).mask addr)) (sym (ap (led_by_route w) route ∙ route_leads w e) ∙ led)
  | inr none ↦
      let route : route_of (table_of w.tables v) addr ≡ Other = cond-false _ _ _ none in
      let no : None ≡ Some (File (spot_of p)) = ap (led_by_route w) (sym route) ∙ led in absurd (cc)
]

pub untouched : (w u : World) (p : GuestPlace) → IsWhole w → IsThere w.imsic (spot_of p) → NothingLeadsTo w (File (spot_of p))
    → (h : WorldChange w u) → IsUntouched w u p h → file_at u.imsic (spot_of p) ≡ file_at w.imsic (spot_of p)
untouched w u p whole there free (DeviceStores v addr value s) other =
    by_route w u p (addr % PAGE) value whole there (route_of (table_of w.tables v) addr) (no_route w p v addr free) s
untouched w u p whole there free (PeerStores g value is s) other =
    by_record w u p value whole there g (stage_of w g).in_force is (free.records g is) s
untouched w u p whole there free (StoreIsSent v addr value s) other =
    sent_kept w u p (route_of (table_of w.tables v) addr) v (addr % PAGE) value s
untouched w u p whole there free (StoreLands v k l) other = landed_kept w u p v k whole there free l
untouched w u p whole there free (StoreIsTaken v k e) other = ap (λ (x : World). file_at x.imsic (spot_of p)) e
untouched w u p whole there free (MsiLands q offset value here s) other =
    other_file w u p offset value whole there (spot_of q) here (λ e. other (place_back q p e)) s.lands.others
  where
    place_back : (q p : GuestPlace) → spot_of q ≡ spot_of p → q ≡ p
    place_back q p e = let hart : q.hart ≡ p.hart = cc in let file : q.file ≡ p.file = cc in
        λ k. record { hart = hart k; file = file k }
untouched w u p whole there free (MsiIsRelayed g value is s) other =
    by_record w u p value whole there g None is (λ e. absurd (cc)) s
untouched w u p whole there free (EntryIsRead g is e) other = ap (λ (x : World). file_at x.imsic (spot_of p)) e
untouched w u p whole there free (EntryIsFenced g is f) other = fence_kept w u p g.vm g.vcpu there free f
untouched w u p whole there free (SlotIsReached q threshold deed low done) other = ap (λ (x : World). file_at x.imsic (spot_of p)) done.rest
untouched w u p whole there free (FileIsReached spot here changed) other =
    other_file w u p 0 0 whole there spot here other (ap (λ (x : World). x.imsic) changed)
untouched w u p whole there free (MoveSteps o led theirs seen landed hand two fine knows first step) none =
    step_kept w landed u p (moving_of o) hand whole knows.fits there free none first step
untouched w u p whole there free (VmIsMade vm after made unnamed) other = ap (λ (x : World). file_at x.imsic (spot_of p)) made.rest

-- ---- a new machine

pub new_empty : (w : World) (harts guests n : ℕ) (p : GuestPlace) → IsNew w harts guests n → IsThere w.imsic (spot_of p)
    → IsEmpty (file_in w (Some p))
new_empty w harts guests n p new there =
    let same = new.files.each (spot_of p) there in
    subst IsEmpty (sym (same_file _ _ same)) (record { pending = λ i. refl; enabled = λ i. refl; delivery = refl; threshold = refl })
