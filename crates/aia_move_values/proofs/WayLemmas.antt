-- Where the ways of stores lead, and that a store which is led to none of a move's places leaves
-- them as they are.
use Rattle.std.proofs.Common.{◌≡◌, ◌≢◌, ℕ, ◌*◌, ◌<◌, true, false, ◌&&◌, nat_eq, nat_lt, Option, Some, None, inl, inr, refl, sym, ap, ◌∙◌, subst, arith, if◌then◌else◌}
use Rattle.std.specs.Int.{is_in_range}
use Rattle.std.specs.Option.{option_map}
use Rattle.std.proofs.lemmas.Bool.{cases_Bool, cond-true, cond-false, eq-eqb, false≢true}
use Rattle.std.proofs.lemmas.Bool.Decides.{nat_tests}
use Rattle.aia_regs.specs.declared.address_map.TheConstants.{PAGE}
use Rattle.aia_regs.specs.declared.limits.TheConstants.{IDENTITIES, VCPUS, SLOTS}
use Rattle.aia_regs.specs.Request.{requested}
use Rattle.aia_file.specs.FileState.{shown}
use Rattle.aia_file.specs.declared.spot.Spot.{Spot}
use Rattle.aia_file.specs.declared.spot.Spot.TheVariants.{MachineFile, SupervisorFile, GuestFile, Nowhere}
use Rattle.aia_file.specs.Imsic.{ImsicState, IsThere, file_at, with_file}
use Rattle.aia_file.specs.Map.{spot_at}
use Rattle.aia_file.proofs.MapLemmas.{machine_of_spot, host_of_spot, guest_of_spot}
use Rattle.aia_file.proofs.PlaceLemmas.{kept_elsewhere}
use Rattle.aia_file.specs.declared.stored.Stored.{Stored}
use Rattle.aia_file.specs.declared.stored.Stored.TheVariants.{Discarded, Quiet, Notice}
use Rattle.aia_file.specs.Mrif.{mrif_in, stored}
use Rattle.aia_entry.specs.declared.entry.Entry.{Entry}
use Rattle.aia_entry.specs.declared.entry.Entry.TheVariants.{Basic, Mrif, NotValid, Custom, Misconfigured}
use Rattle.aia_vcpu.specs.declared.place.GuestPlace.{GuestPlace}
use Rattle.aia_vcpu.specs.Vms.{Vcpu, is_vcpu_in, slot_of, notice_identity, notice_hart}
use Rattle.aia_vcpu.specs.Home.{is_place, holds}
use Rattle.aia_vcpu.specs.BySteps.{own_file, next_file}
use Rattle.aia_vcpu.proofs.HomeLemmas.{same_place, own_is_held, next_is_held}
use Rattle.aia_vcpu_places.specs.Places.{leads_to}
use Rattle.aia_fabric_values.specs.declared.at.At.TheVariants.{Slot}
use Rattle.aia_fabric_values.specs.World.{World}
use Rattle.aia_fabric_values.specs.Whole.{IsWhole}
use Rattle.aia_fabric_values.specs.Stores.{StoresIn, StoresInGuestFile, NoticedAt, NoticedBy, StoresInSlot, ReachesBy, ReachesByRecord, with_store, page_spot, slot_at, named_spot}
use Rattle.aia_fabric_values.specs.Changes.{spot_of, file_in}
use Rattle.aia_fabric_values.proofs.PlaceLemmas.{slot_found, slot_begins, named_guest}
use Rattle.aia_fabric_values.proofs.WholeLemmas.{notice_hart_there}
use Rattle.aia_move_values.specs.Views.{places_of}
use Rattle.aia_move_values.specs.Move.{Moving, mover, MoveFits, place_at}
use Rattle.aia_move_values.specs.Touches.{SameMachine}
use Rattle.aia_move_values.specs.Ways.{guest_at, led_by_entry, led_by_record, leads_here}
use Rattle.aia_move_values.proofs.OwnLemmas.{guest_spot}
use Rattle.aia_move_values.proofs.StepLemmas.{fits_still}
use Rattle.aia_move_values.proofs.StoreViews.{file_store-others, slot_store-others}
use Rattle.aia_move_values.proofs.ViewLemmas.{slot_low}

-- ---- where a way leads

-- an entry of one's own, and a record
pub led_own : (w : World) (q hart : ℕ) (place : Option GuestPlace) → IsWhole w → q < SLOTS
    → ((p : GuestPlace) → place ≡ Some p → IsThere w.imsic (spot_of p)) → led_by_entry w (leads_to q hart place) ≡ Some (place_at place q)
led_own w q hart None whole low there = ap (option_map Slot) (slot_found q low)
led_own w q hart (Some p) whole low there = ap guest_at (guest_spot w.imsic p whole.harts whole.guests (there p refl))

pub led_recorded : (w : World) (g : Vcpu) (place : Option GuestPlace) → ((p : GuestPlace) → place ≡ Some p → IsThere w.imsic (spot_of p))
    → led_by_record w g place ≡ Some (place_at place (slot_of w.vms g))
led_recorded w g None there = refl
led_recorded w g (Some p) there = ap guest_at (named_guest w.imsic p (there p refl))

-- in a world of the same machine
pub led_same : (w u : World) → SameMachine w u → (e : Entry) → led_by_entry u e ≡ led_by_entry w e
led_same w u same (Basic page) = λ k. guest_at (spot_at (same.harts k) (same.guests k) (page * PAGE))
led_same w u same (Mrif addr page identity) = refl
led_same w u same NotValid = refl
led_same w u same Custom = refl
led_same w u same Misconfigured = refl

pub recorded_same : (w u : World) → SameMachine w u → (g : Vcpu) (place : Option GuestPlace) → led_by_record u g place ≡ led_by_record w g place
recorded_same w u same g None = ap (λ vms. Some (Slot (slot_of vms g))) same.vms
recorded_same w u same g (Some p) = λ k. guest_at
    (if nat_lt p.hart (same.harts k) && is_in_range 1 (same.guests k) p.file then GuestFile p.hart p.file else Nowhere)

-- ---- a store that is led to none of a move's places

-- another file is replaced
pub replaced_kept : (w u : World) (m : Moving) (spot : Spot) (notices : ℕ) → IsThere w.imsic spot
    → ((p : GuestPlace) → holds p m.home ≡ true → spot ≢ spot_of p) → MoveFits w m
    → u ≡ record w { imsic = with_file w.imsic spot (file_at u.imsic spot); notices = notices }
    → places_of u (mover m) m.home ≡ places_of w (mover m) m.home
replaced_kept w u m spot notices here other fits is =
    let e = kept (own_file m.home) (λ p own. (fits.own p own, own_is_held m.home p own)) in
    let o = kept (next_file m.home) (λ p next. (fits.next p next, next_is_held m.home p next)) in
    let all : places_of (record w { imsic = with_file w.imsic spot (file_at u.imsic spot); notices = notices })
    (mover m) m.home ≡ places_of w (mover m)
    m.home = λ k. record (places_of w (mover m) m.home) { own = e k; next = o k } in
    ap (λ (x : World). places_of x (mover m) m.home) is ∙ all
  where
    kept : (o : Option GuestPlace) → ((p : GuestPlace) → o ≡ Some p → IsThere w.imsic (spot_of p) × (holds p m.home ≡ true))
        → file_in (record w { imsic = with_file w.imsic spot (file_at u.imsic spot); notices = notices }) o ≡ file_in w o
    kept None inside = refl
    kept (Some p) inside = let is = inside p refl in
        ap shown (kept_elsewhere w.imsic spot (spot_of p) (file_at u.imsic spot) here is.0 (λ e. other p is.1 (sym e)))

module _ (w u : World) (m : Moving) (offset value : ℕ) (whole : IsWhole w) (fits : MoveFits w m) where
  apart_from : (p : GuestPlace) → holds p m.home ≡ false → (r : GuestPlace) → holds r m.home ≡ true → is_place r p ≡ false
  apart_from p none r held = elim (cases_Bool (is_place r p)) [
    | inl is ↦ absurd (false≢true (sym none ∙ ap (λ (x : GuestPlace). holds x m.home) (sym (same_place r p is)) ∙ held))
    | inr other ↦ other
  ]

  file_elsewhere : (p : GuestPlace) → IsThere w.imsic (spot_of p) → holds p m.home ≡ false → StoresIn w u (spot_of p) offset value
      → places_of u (mover m) m.home ≡ places_of w (mover m) m.home
  file_elsewhere p here none stores = file_store-others w u (mover m) p offset value whole here stores m.home
      (λ r own. (fits.own r own, apart_from p none r (own_is_held m.home r own)))
      (λ r next. (fits.next r next, apart_from p none r (next_is_held m.home r next)))

  -- the page of an entry, or what a record names
  at_spot : (spot : Spot) → ((p : GuestPlace) → spot ≡ spot_of p → IsThere w.imsic (spot_of p)) → leads_here m (guest_at spot) ≡ false
      → StoresInGuestFile w u spot offset value → places_of u (mover m) m.home ≡ places_of w (mover m) m.home
  at_spot (GuestFile hart file) is other stores =
      file_elsewhere (record { hart = hart; file = file }) (is (record { hart = hart; file = file }) refl) other stores
  at_spot (MachineFile hart) is other same = ap (λ (x : World). places_of x (mover m) m.home) same
  at_spot (SupervisorFile hart) is other same = ap (λ (x : World). places_of x (mover m) m.home) same
  at_spot Nowhere is other same = ap (λ (x : World). places_of x (mover m) m.home) same

  at_page : (page : ℕ) → leads_here m (guest_at (page_spot w.imsic page)) ≡ false
      → StoresInGuestFile w u (page_spot w.imsic page) offset value → places_of u (mover m) m.home ≡ places_of w (mover m) m.home
  at_page page other stores = at_spot (page_spot w.imsic page) (λ p e.
      let found = guest_of_spot w.imsic.harts w.imsic.guests (page * PAGE) p.hart p.file e in (found.0, found.1, found.2)) other stores

  -- a slot, with its notice
  module _ (q : ℕ) (low : q < VCPUS) (other : nat_eq q m.who.found.slot ≡ false) where
    slot_quiet : places_of (with_store w q offset value) (mover m) m.home ≡ places_of w (mover m) m.home
    slot_quiet = slot_store-others w (mover m) m.home q offset value whole low
        (λ e. false≢true (sym other ∙ eq-eqb q m.who.found.slot (e ∙ sym fits.slot)))

    between_fits : MoveFits (with_store w q offset value) m
    between_fits = fits_still w (with_store w q offset value) m (record { n = refl; vms = refl; harts = refl; guests = refl }) fits

    noticed : (spot : Spot) (identity : ℕ) → ((hart : ℕ) → spot ≡ MachineFile hart → hart < w.imsic.harts)
        → ((hart : ℕ) → spot ≡ SupervisorFile hart → hart < w.imsic.harts)
        → NoticedAt (with_store w q offset value) u spot identity → places_of u (mover m) m.home ≡ places_of
        (with_store w q offset value) (mover m) m.home
    noticed (MachineFile hart) identity machine host posts = replaced_kept (with_store w q offset value) u m (MachineFile hart) u.notices
        (machine hart refl) (λ p held e. absurd (cc)) between_fits
        (posts.rest ∙ ap (λ (j : ImsicState). record (with_store w q offset value) { imsic = j; notices = u.notices }) posts.lands.others)
    noticed (SupervisorFile hart) identity machine host posts = replaced_kept (with_store w q offset value) u m (SupervisorFile hart) u.notices
        (host hart refl) (λ p held e. absurd (cc)) between_fits
        (posts.rest ∙ ap (λ (j : ImsicState). record (with_store w q offset value) { imsic = j; notices = u.notices }) posts.lands.others)
    noticed (GuestFile hart file) identity machine host same = ap (λ (x : World). places_of x (mover m) m.home) same
    noticed Nowhere identity machine host same = ap (λ (x : World). places_of x (mover m) m.home) same

    by_outcome : (became : Stored) (spot : Spot) (identity : ℕ) → ((hart : ℕ) → spot ≡ MachineFile hart → hart < w.imsic.harts)
        → ((hart : ℕ) → spot ≡ SupervisorFile hart → hart < w.imsic.harts)
        → NoticedBy became (with_store w q offset value) u spot identity
        → places_of u (mover m) m.home ≡ places_of (with_store w q offset value) (mover m) m.home
    by_outcome Notice spot identity machine host posts = noticed spot identity machine host posts
    by_outcome Quiet spot identity machine host same = ap (λ (x : World). places_of x (mover m) m.home) same
    by_outcome Discarded spot identity machine host same = ap (λ (x : World). places_of x (mover m) m.home) same

    slot_elsewhere : (spot : Spot) (identity : ℕ) → ((hart : ℕ) → spot ≡ MachineFile hart → hart < w.imsic.harts)
        → ((hart : ℕ) → spot ≡ SupervisorFile hart → hart < w.imsic.harts) → StoresInSlot w u (Some q) spot identity offset value
        → places_of u (mover m) m.home ≡ places_of w (mover m) m.home
    slot_elsewhere spot identity machine host stores =
        by_outcome (stored (mrif_in w.memory q) (requested IDENTITIES offset value)) spot identity machine host stores ∙ slot_quiet

  at_slot : (addr page identity : ℕ) (o : Option ℕ) → slot_at addr ≡ o → leads_here m (option_map Slot o) ≡ false
      → StoresInSlot w u o (page_spot w.imsic page) identity offset value → places_of u (mover m) m.home ≡ places_of w (mover m) m.home
  at_slot addr page identity None is other same = ap (λ (x : World). places_of x (mover m) m.home) same
  at_slot addr page identity (Some q) is other stores =
      let low = (slot_begins addr q is).0 in
      slot_elsewhere q (omega (arith, low)) other (page_spot w.imsic page) identity
      (λ hart e. (machine_of_spot w.imsic.harts w.imsic.guests (page * PAGE) hart e).0)
      (λ hart e. (host_of_spot w.imsic.harts w.imsic.guests (page * PAGE) hart e).0) stores

  -- an entry, and a record, that leads elsewhere
  pub entry_elsewhere : (e : Entry) → leads_here m (led_by_entry w e) ≡ false → ReachesBy e w u offset value
      → places_of u (mover m) m.home ≡ places_of w (mover m) m.home
  entry_elsewhere (Basic page) other stores = at_page page other stores
  entry_elsewhere (Mrif addr page identity) other stores = at_slot addr page identity (slot_at addr) refl other stores
  entry_elsewhere NotValid other same = ap (λ (x : World). places_of x (mover m) m.home) same
  entry_elsewhere Custom other same = ap (λ (x : World). places_of x (mover m) m.home) same
  entry_elsewhere Misconfigured other same = ap (λ (x : World). places_of x (mover m) m.home) same

-- what a record names is there
pub named_there : (i : ImsicState) (q p : GuestPlace) → named_spot i q ≡ spot_of p → IsThere i (spot_of p)
named_there i q p e = elim (cases_Bool (nat_lt q.hart i.harts && is_in_range 1 i.guests q.file)) [
  | inl is ↦
      let same : spot_of q ≡ spot_of p = sym (cond-true _ _ _ is) ∙ e in
      let inside : IsThere i (spot_of q) = (grind (arith, nat_tests), grind (arith, nat_tests), grind (arith, nat_tests)) in
      subst (λ (s : Spot). IsThere i s) same inside
  | inr none ↦ let no : Nowhere ≡ spot_of p = sym (cond-false _ _ _ none) ∙ e in absurd (cc)
]

-- so it is of a record
pub record_elsewhere : (w u : World) (m : Moving) (value : ℕ) → IsWhole w → MoveFits w m → (g : Vcpu) (place : Option GuestPlace)
    → is_vcpu_in w.vms g ≡ true → leads_here m (led_by_record w g place) ≡ false → ReachesByRecord place w u g value
    → places_of u (mover m) m.home ≡ places_of w (mover m) m.home
record_elsewhere w u m value whole fits g (Some p) there other stores =
    at_spot w u m 0 value whole fits (named_spot w.imsic p) (named_there w.imsic p) other stores
record_elsewhere w u m value whole fits g None there other stores =
    slot_elsewhere w u m 0 value whole fits (slot_of w.vms g) (slot_low w g whole there) other (SupervisorFile (notice_hart w.vms g))
    (notice_identity w.vms g) (λ hart e. absurd (cc))
    (λ hart e. let same : notice_hart w.vms g ≡ hart = cc in let low = notice_hart_there w g whole there in omega (arith, same, low)) stores
