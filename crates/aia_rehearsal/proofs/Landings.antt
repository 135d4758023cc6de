-- A store that goes along an entry lands in the state for which a rehearsal stands, on the side to
-- which the entry leads; one that leads to neither place leaves that state alone.
use Rattle.std.proofs.Common.{◌≡◌, ◌≢◌, ℕ, ◌*◌, Bool, true, false, ◌&&◌, ◌||◌, cond, nat_eq, nat_lt, inl, inr, Option, Some, None, refl, sym, ap, ◌∙◌, subst, arith}
use Rattle.std.proofs.lemmas.Bool.{cases_Bool, cond-true, cond-false}
use Rattle.std.proofs.lemmas.Bool.Decides.{nat_tests}
use Rattle.aia_file.specs.declared.spot.Spot.{Spot}
use Rattle.aia_file.specs.declared.spot.Spot.TheVariants.{MachineFile, SupervisorFile, GuestFile, Nowhere}
use Rattle.aia_file.specs.Imsic.{IsThere}
use Rattle.aia_file.proofs.MapLemmas.{machine_of_spot, host_of_spot, guest_of_spot}
use Rattle.aia_regs.specs.declared.address_map.TheConstants.{PAGE}
use Rattle.aia_entry.specs.declared.entry.Entry.{Entry}
use Rattle.aia_entry.specs.declared.entry.Entry.TheVariants.{Basic, Mrif, NotValid, Custom, Misconfigured}
use Rattle.aia_vcpu.specs.declared.place.GuestPlace.{GuestPlace}
use Rattle.aia_fabric_values.specs.World.{World, OnlyStores}
use Rattle.aia_fabric_values.specs.Whole.{IsWhole}
use Rattle.std.specs.Int.{is_in_range}
use Rattle.aia_fabric_values.specs.Stores.{ReachesBy, page_spot, named_spot, slot_at}
use Rattle.aia_fabric_values.specs.Changes.{spot_of}
use Rattle.aia_fabric_values.proofs.PlaceLemmas.{slot_begins}
use Rattle.aia_move_values.specs.Touches.{SameMachine}
use Rattle.aia_plan.specs.Transit.{TransitSide, Transit, landed}
use Rattle.aia_plan.specs.Transit.TransitSide.{Old, New}
use Rattle.aia_rehearsal.specs.declared.place.Place as ends
use Rattle.aia_rehearsal.specs.declared.place.Place.TheVariants.{File, Slot}
use Rattle.aia_rehearsal.specs.Rehearsed.{Passage, Rehearsed, mover_of, AreTwo}
use Rattle.aia_rehearsal.specs.Stands.{routes_of, is_file_at, leads, side_of, identity_asked, RoutesStand, StandsFor}
use Rattle.aia_rehearsal.proofs.Carried.{stand_on}
use Rattle.aia_rehearsal.proofs.StoreSeen.{Seen, file_hit, slot_hit, seen_none, at_spot, at_slot}
use Rattle.aia_move_values.proofs.WayFrames.{stored_machine}

-- ---- on which side

abbrev pub side_by : (ends.Place → Bool) → Passage → Option TransitSide
side_by hits p = cond (hits p.old) (Some Old) (cond (hits p.new) (Some New) None)

-- a store lands on a side, or on none
abbrev pub landed_on : Option TransitSide → ℕ → Transit → Transit
landed_on None x z = z
landed_on (Some side) x z = landed side x z

only_stores_same : (w u : World) → OnlyStores w u → SameMachine w u × (u.flights ≡ w.flights)
only_stores_same w u rest = (stored_machine w u rest, ap (λ (x : World). x.flights) rest)

module _ (w u : World) (r : Rehearsed) (z : Transit) (hits : ends.Place → Bool) (offset value : ℕ) (s : StandsFor w r z)
    (seen : Seen w u r.passage hits offset value) where
  abbrev x : ℕ
  x = identity_asked offset value

  abbrev StandsAfter : Transit → Type 0
  StandsAfter y = StandsFor u r y

  same : SameMachine w u × (u.flights ≡ w.flights)
  same = only_stores_same w u seen.rest

  routes_kept : RoutesStand r.passage (routes_of w (mover_of r.passage)) z → RoutesStand r.passage (routes_of u (mover_of r.passage)) z
  routes_kept routes = subst (λ y. RoutesStand r.passage y z) (sym seen.routes) routes

  nowhere : hits r.passage.old ≡ false → hits r.passage.new ≡ false → StandsFor u r z
  nowhere old new = stand_on w u r r.hand z z same.0 same.1 refl
      (rw (seen.missed r.passage.old s.of.old old, seen.missed r.passage.new s.of.new new) s.sets) (routes_kept s.routes) s

  at_old : hits r.passage.old ≡ true → hits r.passage.new ≡ false → StandsFor u r (landed Old x z)
  at_old old new =
      let adds = seen.hit r.passage.old s.of.old old in
      stand_on w u r r.hand z (landed Old x z) same.0 same.1 refl (rw (seen.missed r.passage.new s.of.new new) (record {
        old_pending = λ i low. ap (λ b. b || (nat_lt 0 i && nat_eq x i)) (s.sets.old_pending i low) ∙ sym (adds.pending i low);
        old_enabled = λ i low. s.sets.old_enabled i low ∙ sym (adds.enabled i);
        new_pending = s.sets.new_pending;
        new_enabled = s.sets.new_enabled;
        carried_pending = s.sets.carried_pending;
        carried_enables = s.sets.carried_enables;
      })) (let routes = routes_kept s.routes in record {
        entry_written = routes.entry_written;
        notice = routes.notice;
        entry_in_force = routes.entry_in_force;
        record_written =
            routes.record_written;
        record_in_force = routes.record_in_force;
      }) s

  at_new : hits r.passage.old ≡ false → hits r.passage.new ≡ true → StandsFor u r (landed New x z)
  at_new old new =
      let adds = seen.hit r.passage.new s.of.new new in
      stand_on w u r r.hand z (landed New x z) same.0 same.1 refl (rw (seen.missed r.passage.old s.of.old old) (record {
        old_pending = s.sets.old_pending;
        old_enabled = s.sets.old_enabled;
        new_pending = λ i low. ap (λ b. b || (nat_lt 0 i && nat_eq x i)) (s.sets.new_pending i low) ∙ sym (adds.pending i low);
        new_enabled = λ i low. s.sets.new_enabled i low ∙ sym (adds.enabled i);
        carried_pending = s.sets.carried_pending;
        carried_enables = s.sets.carried_enables;
      })) (let routes = routes_kept s.routes in record {
        entry_written = routes.entry_written;
        notice = routes.notice;
        entry_in_force = routes.entry_in_force;
        record_written =
            routes.record_written;
        record_in_force = routes.record_in_force;
      }) s

  pub store_lands : (hits r.passage.old ≡ true → hits r.passage.new ≡ false) → StandsFor u r (landed_on (side_by hits r.passage) x z)
  store_lands one = elim (cases_Bool (hits r.passage.old)) [
    | inl old ↦ subst (λ o. StandsFor u r (landed_on o x z)) (sym (cond-true _ _ _ old)) (at_old old (one old))
    | inr none ↦ subst (λ o. StandsFor u r (landed_on o x z)) (sym (cond-false _ _ _ none)) (elim (cases_Bool (hits r.passage.new)) [
      | inl new ↦ subst (λ o. StandsFor u r (landed_on o x z)) (sym (cond-true _ _ _ new)) (at_new none new)
      | inr neither ↦ subst (λ o. StandsFor u r (landed_on o x z)) (sym (cond-false _ _ _ neither)) (nowhere none neither)
    ])
  ]

-- ---- an entry leads to one place

-- no spot is that of two files
pub one_file_hit : (spot : Spot) (a b : ends.Place) → AreTwo a b → file_hit spot a ≡ true → file_hit spot b ≡ false
one_file_hit spot (File a) (File b) two led = by_spot spot led
  where
    by_spot : (spot : Spot) → is_file_at a spot ≡ true → is_file_at b spot ≡ false
    by_spot (GuestFile hart file) led = grind (arith, nat_tests)
    by_spot (MachineFile hart) led = refl
    by_spot (SupervisorFile hart) led = refl
    by_spot Nowhere led = refl
one_file_hit spot (File a) Slot two led = refl
one_file_hit spot Slot b two led = absurd (cc)

pub one_slot_hit : (o : Option ℕ) (q : ℕ) (a b : ends.Place) → AreTwo a b → slot_hit o q a ≡ true → slot_hit o q b ≡ false
one_slot_hit o q (File a) b two led = absurd (cc)
one_slot_hit o q Slot (File b) two led = refl
one_slot_hit o q Slot Slot two led = absurd two

pub page_there : (w : World) (page : ℕ) → page_spot w.imsic page ≢ Nowhere → IsThere w.imsic (page_spot w.imsic page)
page_there w page some = by_spot (page_spot w.imsic page) refl
  where
    by_spot : (spot : Spot) → page_spot w.imsic page ≡ spot → IsThere w.imsic (page_spot w.imsic page)
    by_spot (MachineFile hart) is = subst (IsThere w.imsic) (sym is) (machine_of_spot w.imsic.harts w.imsic.guests (page * PAGE) hart is).0
    by_spot (SupervisorFile hart) is = subst (IsThere w.imsic) (sym is) (host_of_spot w.imsic.harts w.imsic.guests (page * PAGE) hart is).0
    by_spot (GuestFile hart file) is = let found = guest_of_spot w.imsic.harts w.imsic.guests (page * PAGE) hart file is in
        subst (IsThere w.imsic) (sym is) (found.0, found.1, found.2)
    by_spot Nowhere is = absurd (some is)

pub named_spot_there : (w : World) (a : GuestPlace) → named_spot w.imsic a ≢ Nowhere → IsThere w.imsic (named_spot w.imsic a)
named_spot_there w a some = elim (cases_Bool (nat_lt a.hart w.imsic.harts && is_in_range 1 w.imsic.guests a.file)) [
  | inl named ↦ let inside : IsThere w.imsic (spot_of a) = (grind (arith, nat_tests), grind (arith, nat_tests), grind (arith, nat_tests)) in
      subst (IsThere w.imsic) (sym (cond-true _ _ _ named)) inside
  | inr past ↦ absurd (some (cond-false _ _ _ past))
]

module _ (w u : World) (p : Passage) (offset value : ℕ) (whole : IsWhole w) where
  hit_same : (hits gates : ends.Place → Bool) → ((b : ends.Place) → hits b ≡ gates b) → Seen w u p hits offset value → Seen w u p gates offset value
  hit_same hits gates same seen = record {
    rest = seen.rest;
    routes = seen.routes;
    hit = λ b there led. seen.hit b there (same b ∙ led);
    missed = λ b there none. seen.missed b there (same b ∙ none);
  }

  nothing_led : (slot : ℕ) (entry : Entry) → ((b : ends.Place) → leads w.imsic slot b entry ≡ false) → u ≡ w
      → Seen w u p (λ b. leads w.imsic slot b entry) offset value
  nothing_led slot entry none e = seen_none w u p offset value whole (λ b. leads w.imsic slot b entry) none e

  pub entry_seen : (entry : Entry) → ReachesBy entry w u offset value → Seen w u p (λ b. leads w.imsic p.who.found.slot b entry) offset value
  entry_seen (Basic page) reaches = hit_same (file_hit (page_spot w.imsic page)) (λ b. leads w.imsic p.who.found.slot b (Basic page)) by_place
      (at_spot w u p offset value whole (page_spot w.imsic page) (page_there w page) reaches)
    where
      by_place : (b : ends.Place) → file_hit (page_spot w.imsic page) b ≡ leads w.imsic p.who.found.slot b (Basic page)
      by_place (File b) = refl
      by_place Slot = refl
  entry_seen (Mrif addr page identity) reaches =
      hit_same (slot_hit (slot_at addr) p.who.found.slot) (λ b. leads w.imsic p.who.found.slot b (Mrif addr page identity)) by_place
      (at_slot w u p offset value whole (slot_at addr) (page_spot w.imsic page) identity (λ n e. (slot_begins addr n e).0)
      (page_there w page) reaches)
    where
      by_place : (b : ends.Place) → slot_hit (slot_at addr) p.who.found.slot b ≡ leads w.imsic p.who.found.slot b (Mrif addr page identity)
      by_place (File b) = refl
      by_place Slot = refl
  entry_seen NotValid e = nothing_led p.who.found.slot NotValid (λ b. none b) e
    where
      none : (b : ends.Place) → leads w.imsic p.who.found.slot b NotValid ≡ false
      none (File b) = refl
      none Slot = refl
  entry_seen Custom e = nothing_led p.who.found.slot Custom (λ b. none b) e
    where
      none : (b : ends.Place) → leads w.imsic p.who.found.slot b Custom ≡ false
      none (File b) = refl
      none Slot = refl
  entry_seen Misconfigured e = nothing_led p.who.found.slot Misconfigured (λ b. none b) e
    where
      none : (b : ends.Place) → leads w.imsic p.who.found.slot b Misconfigured ≡ false
      none (File b) = refl
      none Slot = refl

module _ (w u : World) (r : Rehearsed) (z : Transit) (offset value : ℕ) (whole : IsWhole w) (s : StandsFor w r z) where
  pub one_led : (entry : Entry) → leads w.imsic r.passage.who.found.slot r.passage.old entry ≡ true
      → leads w.imsic r.passage.who.found.slot r.passage.new entry ≡ false
  one_led entry led = by_places entry r.passage.old r.passage.new s.two led
    where
      by_places : (entry : Entry) (a b : ends.Place) → AreTwo a b → leads w.imsic r.passage.who.found.slot a entry ≡ true
          → leads w.imsic r.passage.who.found.slot b entry ≡ false
      by_places (Basic page) (File a) (File b) two led = one_file_hit (page_spot w.imsic page) (File a) (File b) two led
      by_places (Basic page) (File a) Slot two led = refl
      by_places (Basic page) Slot b two led = absurd (cc)
      by_places (Mrif addr page identity) (File a) b two led = absurd (cc)
      by_places (Mrif addr page identity) Slot (File b) two led = refl
      by_places (Mrif addr page identity) Slot Slot two led = absurd two
      by_places NotValid (File a) b two led = absurd (cc)
      by_places NotValid Slot b two led = absurd (cc)
      by_places Custom (File a) b two led = absurd (cc)
      by_places Custom Slot b two led = absurd (cc)
      by_places Misconfigured (File a) b two led = absurd (cc)
      by_places Misconfigured Slot b two led = absurd (cc)

  -- a store goes along an entry
  pub entry_lands : (entry : Entry) → ReachesBy entry w u offset value
      → StandsFor u r (landed_on (side_of w.imsic r.passage entry) (identity_asked offset value) z)
  entry_lands entry reaches = store_lands w u r z (λ b. leads w.imsic r.passage.who.found.slot b entry) offset value s
      (entry_seen w u r.passage offset value whole entry reaches) (one_led entry)
