-- A store for a virtual hart touches its own places and its own notice identity alone.
use Rattle.std.proofs.Common.{◌≡◌, ◌≢◌, ℕ, ◌+◌, ◌*◌, ◌/◌, ◌%◌, ◌<◌, ◌≤◌, true, ◌&&◌, nat_lt, List, get_or, Option, Some, None, inl, inr, ◌⊎◌, refl, sym, ap, ◌∙◌, subst, arith}
use Rattle.std.specs.Int.{is_in_range}
use Rattle.std.proofs.lemmas.Bool.{cases_Bool, cond-true, cond-false}
use Rattle.std.proofs.lemmas.Bool.Decides.{nat_tests}
use Rattle.aia_regs.specs.declared.address_map.TheConstants.{PAGE}
use Rattle.aia_regs.specs.declared.limits.TheConstants.{HARTS, GUEST_FILES, IDENTITIES, VCPUS}
use Rattle.aia_regs.specs.AddressMap.{supervisor_page, guest_page}
use Rattle.aia_regs.specs.Request.{requested}
use Rattle.aia_file.specs.InterruptFile.{empty_file}
use Rattle.aia_file.specs.FileState.{shown}
use Rattle.aia_file.specs.declared.spot.Spot.{Spot}
use Rattle.aia_file.specs.declared.spot.Spot.TheVariants.{MachineFile, SupervisorFile}
use Rattle.aia_file.specs.Imsic.{ImsicState, IsThere, file_at}
use Rattle.aia_file.proofs.MapLemmas.{in_page, spot_of_guest}
use Rattle.aia_file.proofs.PlaceLemmas.{kept_elsewhere}
use Rattle.aia_file.specs.declared.stored.Stored.{Stored}
use Rattle.aia_file.specs.declared.stored.Stored.TheVariants.{Discarded, Quiet, Notice}
use Rattle.aia_file.specs.Mrif.{mrif_in, stored}
use Rattle.aia_entry.specs.declared.entry.Entry.{Entry}
use Rattle.aia_entry.specs.declared.table.Route.{Route}
use Rattle.aia_entry.specs.Tables.{table_of, entry_in_force, leads_by, route_of}
use Rattle.aia_entry.specs.Translation.{is_msi_address, file_number}
use Rattle.aia_vcpu.specs.declared.place.GuestPlace.{GuestPlace}
use Rattle.aia_vcpu.specs.Vms.{Vcpu, vcpu_of, is_vcpu_in, slot_of, notice_identity, notice_hart}
use Rattle.aia_vcpu.specs.Home.{Home, holds}
use Rattle.aia_vcpu.specs.BySteps.{own_file, next_file}
use Rattle.aia_vcpu.proofs.HomeLemmas.{own_is_held, next_is_held}
use Rattle.aia_vcpu.proofs.VmLemmas.{same_slot}
use Rattle.aia_vcpu_places.specs.Places.{leads_to}
use Rattle.aia_fabric_values.specs.World.{World, stage_of}
use Rattle.aia_fabric_values.specs.Whole.{IsWhole}
use Rattle.aia_fabric_values.specs.Making.{entry_word_place}
use Rattle.aia_fabric_values.specs.Stores.{StoresIn, StoresInGuestFile, Posts, NoticedBy, StoresInSlot, Reaches, ReachesBy, ReachesByRecord, with_store, page_spot}
use Rattle.aia_fabric_values.specs.Changes.{spot_of, file_in}
use Rattle.aia_move_values.specs.Views.{places_of}
use Rattle.aia_move_values.specs.Own.{TouchesOwn, LeadsToOwn, TouchesOneOf}
use Rattle.aia_fabric_values.proofs.FrameLemmas.{by_parts, none_rest, stores_rest, posts_rest}
use Rattle.aia_fabric_values.proofs.PlaceLemmas.{slot_found, host_page, other_slot_stays}
use Rattle.aia_move_values.proofs.StoreViews.{entry_words_kept}
use Rattle.aia_move_values.proofs.ViewLemmas.{same_place, slot_low}
use Rattle.aia_fabric_values.proofs.WholeLemmas.{notice_hart_there}

-- ---- a world as it was

pub touches_none : (w u : World) (g : Vcpu) (reach : Option GuestPlace) → u ≡ w → TouchesOwn w u g reach
touches_none w u g reach e = record {
  rest = none_rest w u e;
  guest_files = λ p there other. ap (λ (x : World). file_at x.imsic (spot_of p)) e;
  machine_files = λ hart there. ap (λ (x : World). file_at x.imsic (MachineFile hart)) e;
  host_files = λ hart there other. ap (λ (x : World). file_at x.imsic (SupervisorFile hart)) e;
  notice = inl (ap (λ (x : World). file_at x.imsic (SupervisorFile (notice_hart w.vms g))) e);
  slots = λ q other. ap (λ (x : World). mrif_in x.memory q) e;
  entry_words = λ x. (
    ap (λ (u : World). get_or u.memory (entry_word_place x.vm x.vcpu) 0) e,
    ap (λ (u : World). get_or u.memory (entry_word_place x.vm x.vcpu + 1) 0) e,
  );
}

-- ---- a guest file

module _ (w u : World) (g : Vcpu) (p : GuestPlace) (offset value : ℕ) (whole : IsWhole w) (there : is_vcpu_in w.vms g ≡ true)
    (here : IsThere w.imsic (spot_of p)) (s : StoresIn w u (spot_of p) offset value) where
  file_kept : (spot : Spot) → IsThere w.imsic spot → spot ≢ spot_of p → file_at u.imsic spot ≡ file_at w.imsic spot
  file_kept spot inside other = ap (λ (i : ImsicState). file_at i spot) s.lands.others
      ∙ kept_elsewhere w.imsic (spot_of p) spot (file_at u.imsic (spot_of p)) here inside other

  memory_kept : u.memory ≡ w.memory
  memory_kept = ap (λ (x : World). x.memory) s.rest

  pub touches_file : TouchesOwn w u g (Some p)
  touches_file = record {
    rest = stores_rest w u (spot_of p) offset value s;
    guest_files = λ q inside other. file_kept (spot_of q) inside (λ e. other (ap Some (sym (same_place q p e))));
    machine_files = λ hart inside. file_kept (MachineFile hart) inside (λ e. absurd (cc));
    host_files = λ hart inside other. file_kept (SupervisorFile hart) inside (λ e. absurd (cc));
    notice = inl (file_kept (SupervisorFile (notice_hart w.vms g)) (notice_hart_there w g whole there) (λ e. absurd (cc)));
    slots = λ q other. ap (λ words. mrif_in words q) memory_kept;
    entry_words = λ x. (
      ap (λ words. get_or words (entry_word_place x.vm x.vcpu) 0) memory_kept,
      ap (λ words. get_or words (entry_word_place x.vm x.vcpu + 1) 0) memory_kept,
    );
  }

-- ---- a slot

module _ (w u : World) (g : Vcpu) (offset value : ℕ) (whole : IsWhole w) (there : is_vcpu_in w.vms g ≡ true) where
  abbrev between : World
  between = with_store w (slot_of w.vms g) offset value

  low : slot_of w.vms g < VCPUS
  low = slot_low w g whole there

  slot_kept : (words : List ℕ) → words ≡ between.memory → (q : ℕ) → q ≢ slot_of w.vms g → mrif_in words q ≡ mrif_in w.memory q
  slot_kept words is q other = ap (λ (m : List ℕ). mrif_in m q) is ∙ other_slot_stays w.memory (slot_of w.vms g) q offset value (λ e. other (sym e))

  entries_kept : (words : List ℕ) → words ≡ between.memory → (x : Vcpu)
      → (get_or words (entry_word_place x.vm x.vcpu) 0 ≡ get_or w.memory (entry_word_place x.vm x.vcpu) 0)
      × (get_or words (entry_word_place x.vm x.vcpu + 1) 0 ≡ get_or w.memory (entry_word_place x.vm x.vcpu + 1) 0)
  entries_kept words is x =
      let kept = entry_words_kept w x (slot_of w.vms g) offset value whole low in (
        ap (λ (m : List ℕ). get_or m (entry_word_place x.vm x.vcpu) 0) is
            ∙ kept.0,
        ap (λ (m : List ℕ). get_or m (entry_word_place x.vm x.vcpu + 1) 0) is ∙ kept.1,
      )

  -- with no notice
  quiet : u ≡ between → TouchesOwn w u g None
  quiet e = record {
    rest = by_parts w u w.imsic.files between.memory w.notices e;
    guest_files = λ p inside other. ap (λ (x : World). file_at x.imsic (spot_of p)) e;
    machine_files = λ hart inside. ap (λ (x : World). file_at x.imsic (MachineFile hart)) e;
    host_files = λ hart inside other. ap (λ (x : World). file_at x.imsic (SupervisorFile hart)) e;
    notice = inl (ap (λ (x : World). file_at x.imsic (SupervisorFile (notice_hart w.vms g))) e);
    slots = slot_kept u.memory (ap (λ (x : World). x.memory) e);
    entry_words = entries_kept u.memory (ap (λ (x : World). x.memory) e);
  }

  -- with a notice
  told : Posts between u (SupervisorFile (notice_hart w.vms g)) (notice_identity w.vms g) → TouchesOwn w u g None
  told posts = record {
    rest = posts_rest between u (SupervisorFile (notice_hart w.vms g)) (notice_identity w.vms g) posts;
    guest_files = λ p inside other. file_kept (spot_of p) inside (λ e. absurd (cc));
    machine_files = λ hart inside. file_kept (MachineFile hart) inside (λ e. absurd (cc));
    host_files = λ hart inside other. file_kept (SupervisorFile hart) inside (λ e. other (let same : hart ≡ notice_hart w.vms g = cc in same));
    notice = inr posts.lands.lands;
    slots = slot_kept u.memory memory;
    entry_words = entries_kept u.memory memory;
  }
    where
      memory : u.memory ≡ between.memory
      memory = ap (λ (x : World). x.memory) posts.rest

      file_kept : (spot : Spot) → IsThere w.imsic spot → spot ≢ SupervisorFile (notice_hart w.vms g) → file_at u.imsic spot ≡ file_at w.imsic spot
      file_kept spot inside other = ap (λ (i : ImsicState). file_at i spot) posts.lands.others
          ∙ kept_elsewhere w.imsic (SupervisorFile (notice_hart w.vms g)) spot (file_at u.imsic (SupervisorFile (notice_hart w.vms g)))
          (notice_hart_there w g whole there) inside other

  by_outcome : (became : Stored) → NoticedBy became between u (SupervisorFile (notice_hart w.vms g)) (notice_identity w.vms g) → TouchesOwn w u g None
  by_outcome Notice s = told s
  by_outcome Quiet s = quiet s
  by_outcome Discarded s = quiet s

  pub touches_slot : StoresInSlot w u (Some (slot_of w.vms g)) (SupervisorFile (notice_hart w.vms g)) (notice_identity w.vms g) offset value
      → TouchesOwn w u g None
  touches_slot s = by_outcome (stored (mrif_in w.memory (slot_of w.vms g)) (requested IDENTITIES offset value)) s

-- ---- a device's store

pub guest_spot : (i : ImsicState) (p : GuestPlace) → i.harts ≤ HARTS → i.guests ≤ GUEST_FILES → IsThere i (spot_of p)
    → page_spot i (guest_page p.hart p.file / PAGE) ≡ spot_of p
guest_spot i p few eight there =
    let page : guest_page p.hart p.file / PAGE * PAGE ≡ guest_page p.hart p.file = omega arith in
    spot_of_guest i.harts i.guests (guest_page p.hart p.file / PAGE * PAGE) p.hart p.file few eight there.0 there.1 there.2
    (in_page (guest_page p.hart p.file) (guest_page p.hart p.file / PAGE * PAGE) (omega arith) (omega arith))

-- an entry leads a store, and is the route of one
pub by_entry : (place : Option GuestPlace) (q hart : ℕ) (w u : World) (offset value : ℕ) → ReachesBy (leads_to q hart place) w u offset value
    → Reaches (leads_by (leads_to q hart place)) w u offset value
by_entry None q hart w u offset value reaches = reaches
by_entry (Some p) q hart w u offset value reaches = reaches

-- an entry that leads a virtual hart's stores to its own
pub own_entry : (w u : World) (g : Vcpu) (reach : Option GuestPlace) (offset value : ℕ) → IsWhole w → is_vcpu_in w.vms g ≡ true
    → ((p : GuestPlace) → reach ≡ Some p → IsThere w.imsic (spot_of p))
    → Reaches (leads_by (leads_to (slot_of w.vms g) (notice_hart w.vms g) reach)) w u offset value → TouchesOwn w u g reach
own_entry w u g (Some p) offset value whole there inside reaches =
    touches_file w u g p offset value whole there (inside p refl)
    (subst (λ (s : Spot). StoresInGuestFile w u s offset value) (guest_spot w.imsic p whole.harts whole.guests (inside p refl)) reaches)
own_entry w u g None offset value whole there inside reaches =
    let hart = notice_hart_there w g whole there in
    touches_slot w u g offset value whole there (subst
    (λ (s : Spot). StoresInSlot w u (Some (slot_of w.vms g)) s (slot_of w.vms g + 1) offset value)
    (host_page w.imsic (notice_hart w.vms g) hart whole.harts)
    (subst (λ (o : Option ℕ). StoresInSlot w u o (page_spot w.imsic (supervisor_page (notice_hart w.vms g) / PAGE)) (slot_of w.vms g + 1) offset
    value) (slot_found (slot_of w.vms g) (slot_low w g whole there)) reaches))

one_of : (w u : World) (g : Vcpu) (offset value : ℕ) (reach : Vcpu → Option GuestPlace) → IsWhole w → LeadsToOwn w g.vm reach
    → Reaches (leads_by (entry_in_force (table_of w.tables g.vm) g.vcpu)) w u offset value → (u ≡ w) ⊎ TouchesOneOf w u g.vm reach
one_of w u g offset value reach whole leads at = elim (cases_Bool (is_vcpu_in w.vms g)) [
  | inl there ↦ inr (record {
    g = g;
    its = refl;
    there = there;
    touches = own_entry w u g (reach g) offset value whole there (λ p e. leads.there g p refl there e)
        (subst (λ (entry : Entry). Reaches (leads_by entry) w u offset value) (leads.own g refl there) at);
  })
  | inr none ↦ inl (subst (λ (entry : Entry). Reaches (leads_by entry) w u offset value) (leads.no_other g refl none) at)
]

pub device_touches : (w u : World) (v addr value : ℕ) (reach : Vcpu → Option GuestPlace) → IsWhole w → LeadsToOwn w v reach
    → Reaches (route_of (table_of w.tables v) addr) w u (addr % PAGE) value → (u ≡ w) ⊎ TouchesOneOf w u v reach
device_touches w u v addr value reach whole leads reaches = elim (cases_Bool (is_msi_address (table_of w.tables v).mask addr)) [
  | inl is ↦ one_of w u (vcpu_of v (file_number (table_of w.tables v).mask addr)) (addr % PAGE) value reach whole leads
      (subst (λ (r : Route). Reaches r w u (addr % PAGE) value) (cond-true _ _ _ is) reaches)
  | inr none ↦ inl (subst (λ (r : Route). Reaches r w u (addr % PAGE) value) (cond-false _ _ _ none) reaches)
]

-- ---- a virtual hart's store

pub peer_touches : (w u : World) (g : Vcpu) (named : Option GuestPlace) (value : ℕ) → IsWhole w → is_vcpu_in w.vms g ≡ true
    → ReachesByRecord named w u g value → TouchesOwn w u g named
peer_touches w u g None value whole there relays = touches_slot w u g 0 value whole there relays
peer_touches w u g (Some p) value whole there relays = elim (cases_Bool (nat_lt p.hart w.imsic.harts && is_in_range 1 w.imsic.guests p.file)) [
  | inl named ↦
      let inside : IsThere w.imsic (spot_of p) = (grind (arith, nat_tests), grind (arith, nat_tests), grind (arith, nat_tests)) in
      touches_file w u g p 0 value whole there inside (subst (λ (s : Spot). StoresInGuestFile w u s 0 value) (cond-true _ _ _ named) relays)
  | inr none ↦ touches_none w u g (Some p) (subst (λ (s : Spot). StoresInGuestFile w u s 0 value) (cond-false _ _ _ none) relays)
]

-- ---- the places of another virtual hart

file_stays : (w u : World) (g : Vcpu) (reach o : Option GuestPlace) → TouchesOwn w u g reach
    → ((p : GuestPlace) → o ≡ Some p → IsThere w.imsic (spot_of p) × (reach ≢ Some p)) → file_in u o ≡ file_in w o
file_stays w u g reach None t kept = ap (λ (x : World). empty_file x.n) t.rest
file_stays w u g reach (Some p) t kept = let inside = kept p refl in ap shown (t.guest_files p inside.0 inside.1)

pub others_stay : (w u : World) (g x : Vcpu) (reach : Option GuestPlace) (there : Home) → is_vcpu_in w.vms g ≡ true → is_vcpu_in w.vms x ≡ true
    → x ≢ g → TouchesOwn w u g reach
    → ((p : GuestPlace) → holds p there ≡ true → IsThere w.imsic (spot_of p) × (reach ≢ Some p)) → places_of u x there ≡ places_of w x there
others_stay w u g x reach there standing inside other t held =
    let own = file_stays w u g reach (own_file there) t (λ p e. held p (own_is_held there p e)) in
    let next = file_stays w u g reach (next_file there) t (λ p e. held p (next_is_held there p e)) in
    let slot : mrif_in u.memory (slot_of u.vms x) ≡ mrif_in w.memory (slot_of w.vms x) =
    ap (λ (v : World). mrif_in u.memory (slot_of v.vms x)) t.rest ∙ t.slots (slot_of w.vms x) (λ e. other (same_slot w.vms x g inside standing e)) in
    let entry = t.entry_words x in
    let tables = ap (λ (v : World). entry_in_force (table_of v.tables x.vm) x.vcpu) t.rest in
    let stages : stage_of u x ≡ stage_of w x = ap (λ (v : World). stage_of v x) t.rest in
    λ k. record {
      own = own k;
      next = next k;
      slot = slot k;
      word0 = entry.0 k;
      word1 = entry.1 k;
      in_force = tables k;
      stage = (stages k).written;
      stage_in_force = (stages k).in_force;
    }
