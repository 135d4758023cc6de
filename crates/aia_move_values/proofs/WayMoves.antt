-- Accesses of others, and steps of other moves, keep what is known of a virtual hart.
use Rattle.std.proofs.Common.{◌≡◌, ◌≢◌, ℕ, ◌<◌, Bool, true, false, ◌||◌, if◌then◌else◌, nat_eq, Option, Some, None, inl, inr, refl, sym, ap, ◌∙◌, subst, arith}
use Rattle.std.specs.Prelude.{slice_get, slice_index_or}
use Rattle.std.proofs.lemmas.Bool.{cases_Bool, ne_eqb, false≢true}
use Rattle.aia_regs.specs.declared.limits.TheConstants.{HARTS, VCPUS, SLOTS}
use Rattle.aia_file.specs.InterruptFile.{InterruptFile}
use Rattle.aia_file.specs.declared.spot.Spot.{Spot}
use Rattle.aia_file.specs.Imsic.{IsThere, file_at, with_file}
use Rattle.aia_entry.specs.declared.entry.Entry.{Entry}
use Rattle.aia_entry.specs.Format.{decoded}
use Rattle.aia_vcpu.specs.declared.place.GuestPlace.{GuestPlace}
use Rattle.aia_vcpu.specs.declared.access.Access.{Access}
use Rattle.aia_vcpu.specs.declared.access.Access.TheVariants.{Fence}
use Rattle.aia_vcpu.specs.Vms.{Vcpu, is_vcpu, is_vcpu_in, slot_of}
use Rattle.aia_vcpu.specs.Home.{Home, is_place, holds, ended, one_more}
use Rattle.aia_vcpu.specs.Home.Home.{InMemory, Resident, OnWay}
use Rattle.aia_vcpu.specs.Home.Way.{Outward, Inward, Across}
use Rattle.aia_vcpu.specs.Plans.{is_at_last}
use Rattle.aia_vcpu.specs.BySteps.{new_file}
use Rattle.aia_vcpu.specs.Routes.{origin, entry_names, stage_names, peers_reach, MayReach, is_at_fence, is_written, is_stage_written, is_stage_closed, reach_stepped}
use Rattle.aia_vcpu.proofs.HomeLemmas.{origin_is_held, new_is_held, either_file}
use Rattle.aia_vcpu.proofs.RouteLemmas.{is_fence, fence_is_next}
use Rattle.aia_vcpu.proofs.VmLemmas.{same_vcpu, same_slot}
use Rattle.aia_vcpu_places.specs.Holds.{HoldsRoutes, Hand, IsWithin}
use Rattle.aia_vcpu_places.specs.Places.{IsInMap, leads_to, entry_word, second_word}
use Rattle.aia_vcpu_places.specs.Stores.{AreApart}
use Rattle.aia_vcpu_places.proofs.EntryLemmas.{entry_back}
use Rattle.aia_fabric_values.specs.declared.stage.Stage.{Stage}
use Rattle.aia_fabric_values.specs.World.{World, OnlyStores, flight_of, stage_of, no_stage}
use Rattle.aia_fabric_values.specs.Whole.{IsWhole}
use Rattle.aia_fabric_values.specs.Changes.{spot_of}
use Rattle.aia_fabric_values.specs.Flights.{Fences}
use Rattle.aia_fabric_values.specs.SlotAccess.{DoneInSlot}
use Rattle.aia_fabric_values.proofs.FrameLemmas.{by_parts}
use Rattle.aia_move_values.specs.Views.{places_of}
use Rattle.aia_move_values.specs.Move.{Moving, mover, width, MoveFits, MakesNext, Makes, place_at}
use Rattle.aia_move_values.specs.PlanState.{PlanState, moving_of}
use Rattle.aia_move_values.specs.Targets.{TargetMap}
use Rattle.aia_move_values.specs.Touches.{SameMachine, Touches, sends}
use Rattle.aia_move_values.specs.Landings.{LandsFirst}
use Rattle.aia_move_values.specs.Knows.{Knows}
use Rattle.aia_move_values.specs.Ways.{led_by_entry, led_by_record, entry_of, written_of, leads_here, KnowsWays, landed_before, reach_fetched}
use Rattle.aia_move_values.specs.Ways as ways
use Rattle.aia_move_values.proofs.KnowsLemmas.{knows_by}
use Rattle.aia_move_values.proofs.MachineLemmas.{machine_touched}
use Rattle.aia_move_values.proofs.MoveKept.{files_fit, slot_few, notice_low, goes_kept, ends_kept}
use Rattle.aia_move_values.proofs.SlotViews.{done_entry_words, slot_done-others}
use Rattle.aia_move_values.proofs.TouchLemmas.{step_touches, view_stays}
use Rattle.aia_move_values.proofs.WayLemmas.{led_own, led_recorded, led_same, recorded_same, replaced_kept}
use Rattle.aia_move_values.proofs.WayFrames.{KnowsSo, KeepsRoutes, words_same, stored_machine, stored_ways}
use Rattle.aia_move_values.proofs.WayFences.{fenced_all, no_vcpu}

-- ---- accesses of others

module _ (w u : World) (map : TargetMap) (Q : ℕ → Type 0) (m : Moving) (reach : Option GuestPlace) (file : InterruptFile) (saw : Bool)
    (all : KnowsSo Q w map m reach file saw) where
  -- a slot is reached as a file that is another one's
  pub slot_all : (q threshold : ℕ) (deed : InterruptFile → InterruptFile) → q < VCPUS → q ≢ m.who.found.slot → DoneInSlot w u q threshold deed
      → KnowsSo Q u map m reach file saw
  slot_all q threshold deed low other done =
      let rest : OnlyStores w u = by_parts w u w.imsic.files u.memory w.notices done.rest in
      let seen = slot_done-others w u q threshold deed low done (mover m) m.home (λ e. other (e ∙ sym all.places.fits.slot)) in
      record {
        places = knows_by w u Q m reach saw (stored_machine w u rest) file file all.places (places_of w (mover m) m.home) seen all.places.holds;
        ways = stored_ways w u m rest (λ g. done_entry_words w u q threshold deed low done g.vm g.vcpu) all.ways;
        targets = all.targets;
      }

  -- a file changes that the move does not hold
  pub file_all : (spot : Spot) → IsThere w.imsic spot → ((p : GuestPlace) → holds p m.home ≡ true → spot ≢ spot_of p)
      → u ≡ record w { imsic = with_file w.imsic spot (file_at u.imsic spot); notices = u.notices } → KnowsSo Q u map m reach file saw
  file_all spot here other is =
      let rest : OnlyStores w u = by_parts w u (with_file w.imsic spot (file_at u.imsic spot)).files w.memory u.notices is in
      let seen = replaced_kept w u m spot u.notices here other all.places.fits is in
      record {
        places = knows_by w u Q m reach saw (stored_machine w u rest) file file all.places (places_of w (mover m) m.home) seen all.places.holds;
        ways = stored_ways w u m rest (words_same w u (ap (λ (x : World). x.memory) is)) all.ways;
        targets = all.targets;
      }

-- ---- another move

-- the places where its routes lead are those that it holds, and its slot
pub route_held : (there : Home) (b : Bool) (place : Option GuestPlace) → (if b then new_file there else origin there) ≡ place → (p : GuestPlace)
    → place ≡ Some p → holds p there ≡ true
route_held there true place is p e = new_is_held there p (is ∙ e)
route_held there false place is p e = origin_is_held there p (is ∙ e)

reach_held : (there : Home) (place : Option GuestPlace) → MayReach there place → (p : GuestPlace) → place ≡ Some p → holds p there ≡ true
reach_held there place may p e = elim may [
  | inl old ↦ origin_is_held there p (sym old.0 ∙ e)
  | inr new ↦ new_is_held there p (sym new.0 ∙ e)
]

-- after its step it holds no other file
more_held : (there : Home) (p : GuestPlace) → holds p (one_more there) ≡ true → holds p there ≡ true
more_held (OnWay way at) p held = held
more_held (InMemory rest) p held = held
more_held (Resident q) p held = held

pub ended_held : (there : Home) (p : GuestPlace) → holds p (ended there) ≡ true → holds p there ≡ true
ended_held (OnWay (Outward from) at) p held = absurd (cc)
ended_held (OnWay (Inward to) at) p held = held
ended_held (OnWay (Across from to) at) p held = or_right (is_place p from) (is_place p to) held
  where
    or_right : (a b : Bool) → b ≡ true → (a || b) ≡ true
    or_right true b e = refl
    or_right false b e = e
ended_held (InMemory rest) p held = held
ended_held (Resident q) p held = held

-- the words of an entry say where it leads
pub words_say : (u : World) (g : Vcpu) (q hart : ℕ) (there : Home) → q < SLOTS → hart < HARTS
    → ((p : GuestPlace) → entry_names there ≡ Some p → IsInMap p) → (places_of u g there).word0 ≡ entry_word q (entry_names there)
    → (places_of u g there).word1 ≡ second_word q hart → written_of u g ≡ leads_to q hart (entry_names there)
words_say u g q hart there low few fit first second =
    ap (λ word. decoded word (places_of u g there).word1) first ∙ ap (λ word. decoded (entry_word q (entry_names there)) word) second
    ∙ entry_back q hart (entry_names there) low few fit

pub written_is : (w : World) (m : Moving) (reach : Option GuestPlace) → IsWhole w → MoveFits w m
    → HoldsRoutes m.who.found.slot m.who.found.notice reach (places_of w (mover m) m.home) m.home
    → written_of w (mover m) ≡ leads_to m.who.found.slot m.who.found.notice (entry_names m.home)
written_is w m reach whole fits routes = words_say w (mover m) m.who.found.slot m.who.found.notice m.home (slot_few w m whole fits)
    (notice_low w m whole fits) in_map routes.word0 routes.word1
  where
    in_map : (p : GuestPlace) → entry_names m.home ≡ Some p → IsInMap p
    in_map p e =
        let held = route_held m.home (is_written m.home) (entry_names m.home) refl p e in
        let fit = files_fit w m whole fits in
        elim (either_file p m.home held) [ inl own ↦ fit.own p own | inr next ↦ fit.next p next ]

-- its routes lead to none of a plan's places
pub record RoutesApart (u : World) (m : Moving) (o : Moving) : Type 0 where
  pub entry : leads_here m (led_by_entry u (entry_of u (mover o))) ≡ false
  pub written : leads_here m (led_by_entry u (written_of u (mover o))) ≡ false
  pub in_force : leads_here m (led_by_record u (mover o) (stage_of u (mover o)).in_force) ≡ false
  pub named : leads_here m (led_by_record u (mover o) (stage_of u (mover o)).written) ≡ false

module _ (w u : World) (it : Moving) (o : Moving) (whole : IsWhole w) (others : (p : GuestPlace) → holds p it.home ≡ true
    → holds p o.home ≡ false) (same : SameMachine w u) (fits : MoveFits w o) (slots : nat_eq o.who.found.slot it.who.found.slot ≡ false)
  where
    abbrev g : Vcpu
    g = mover o

    apart_place : (place : Option GuestPlace) → ((p : GuestPlace) → place ≡ Some p → holds p o.home ≡ true)
        → leads_here it (Some (place_at place o.who.found.slot)) ≡ false
    apart_place None held = slots
    apart_place (Some p) held = elim (cases_Bool (holds p it.home)) [
      | inl is ↦ absurd (false≢true (sym (others p is) ∙ held p refl))
      | inr none ↦ none
    ]

    inside : (place : Option GuestPlace) → ((p : GuestPlace) → place ≡ Some p → holds p o.home ≡ true) → (p : GuestPlace) → place ≡ Some p
        → IsThere w.imsic (spot_of p)
    inside place held p e = elim (either_file p o.home (held p e)) [ inl own ↦ fits.own p own | inr next ↦ fits.next p next ]

    entry_apart : (place : Option GuestPlace) → ((p : GuestPlace) → place ≡ Some p → holds p o.home ≡ true)
        → leads_here it (led_by_entry w (leads_to o.who.found.slot o.who.found.notice place)) ≡ false
    entry_apart place held =
        ap (leads_here it) (led_own w o.who.found.slot o.who.found.notice place whole (slot_few w o whole fits) (inside place held))
        ∙ apart_place place held

    record_apart : (place : Option GuestPlace) → ((p : GuestPlace) → place ≡ Some p → holds p o.home ≡ true)
        → leads_here it (led_by_record w g place) ≡ false
    record_apart place held =
        ap (leads_here it) (led_recorded w g place (inside place held))
        ∙ ap (λ q. leads_here it (Some (place_at place q))) (sym fits.slot) ∙ apart_place place held

    in_map : (place : Option GuestPlace) → ((p : GuestPlace) → place ≡ Some p → holds p o.home ≡ true) → (p : GuestPlace) → place ≡ Some p → IsInMap p
    in_map place held p e = let here = inside place held p e in
        (omega (arith, here.0, whole.harts), omega (arith, here.2, whole.guests), here.1)

    after_step : (there : Home) (reach : Option GuestPlace) → ((p : GuestPlace) → holds p there ≡ true → holds p o.home ≡ true)
        → HoldsRoutes o.who.found.slot o.who.found.notice reach (places_of u g there) there → RoutesApart u it o
    after_step there reach kept routes =
        let names_held : (p : GuestPlace) → entry_names there ≡ Some p → holds p o.home ≡ true =
        λ p e. kept p (route_held there (is_written there) (entry_names there) refl p e) in
        let written : written_of u g ≡ leads_to o.who.found.slot o.who.found.notice (entry_names there) =
        words_say u g o.who.found.slot o.who.found.notice there (slot_few w o whole fits) (notice_low w o whole fits)
        (in_map (entry_names there) names_held) routes.word0 routes.word1 in
        record {
          entry = ap (leads_here it) (ap (led_by_entry u) routes.in_force
              ∙ led_same w u same (leads_to o.who.found.slot o.who.found.notice reach))
              ∙ entry_apart reach (λ p e. kept p (reach_held there reach routes.may p e));
          written = ap (leads_here it) (ap (led_by_entry u) written
              ∙ led_same w u same (leads_to o.who.found.slot o.who.found.notice (entry_names there)))
              ∙ entry_apart (entry_names there) names_held;
          in_force = ap (leads_here it) (ap (led_by_record u g) routes.stage_in_force ∙ recorded_same w u same g (peers_reach there))
              ∙ record_apart (peers_reach there) (λ p e. kept p (route_held there (is_stage_closed there) (peers_reach there) refl p e));
          named = ap (leads_here it) (ap (led_by_record u g) routes.stage ∙ recorded_same w u same g (stage_names there))
              ∙ record_apart (stage_names there) (λ p e. kept p (route_held there (is_stage_written there) (stage_names there) refl p e));
        }

-- the routes of all but the one that is moved stay
pub kept_by_touch : (sent : Bool) (w u : World) (o : Moving) (x : Vcpu) → MoveFits w o → Touches sent w u o → is_vcpu_in w.vms x ≡ true → x ≢ mover o
    → KeepsRoutes w u x
kept_by_touch sent w u o x fits t there other =
    let words = t.entry_words x there other in
    let slots : slot_of w.vms x ≢ slot_of w.vms (mover o) = λ e. other (same_slot w.vms x (mover o) there fits.there e) in
    let stage : stage_of u x ≡ stage_of w x = ap (λ (v : World). slice_index_or u.stages (slot_of v.vms x) no_stage) t.rest
    ∙ t.stages (slot_of w.vms x) slots in
    record { entry = t.in_force x other; written = λ k. decoded (words.0 k) (words.1 k); stage = stage }

pub touched_flights : (sent : Bool) (w u : World) (o : Moving) (v : ℕ) → Touches sent w u o → flight_of u v ≡ flight_of w v
touched_flights sent w u o v t = ap (λ (x : World). flight_of x v) t.rest

module _ (sent : Bool) (w u : World) (mine : Moving) (o : Moving) (fits : MoveFits w o) (t : Touches sent w u o)
    (ways : KnowsWays w mine)
  where
    same : SameMachine w u
    same = machine_touched sent w u o t

    was_entry : (e : Entry) → leads_here mine (led_by_entry u e) ≡ true → leads_here mine (led_by_entry w e) ≡ true
    was_entry e led = ap (leads_here mine) (sym (led_same w u same e)) ∙ led

    was_record : (x : Vcpu) (place : Option GuestPlace) → leads_here mine (led_by_record u x place) ≡ true
        → leads_here mine (led_by_record w x place) ≡ true
    was_record x place led = ap (leads_here mine) (sym (recorded_same w u same x place)) ∙ led

    was_there : (x : Vcpu) → is_vcpu_in u.vms x ≡ true → is_vcpu_in w.vms x ≡ true
    was_there x there = ap (λ vms. is_vcpu_in vms x) (sym same.vms) ∙ there

    -- one is the one that is moved, or another
    by_whom : (P : Vcpu → Type 0) (x : Vcpu) → P (mover o) → (x ≢ mover o → P x) → P x
    by_whom P x its others = elim (cases_Bool (is_vcpu x (mover o))) [
      | inl is ↦ subst P (sym (same_vcpu x (mover o) is)) its
      | inr none ↦ others (no_vcpu x (mover o) none)
    ]

    -- what is known of the routes of the one that is moved: they are a plan's own where they lead to its places
    pub record RoutesKnown : Type 0 where
      pub entry : leads_here mine (led_by_entry u (entry_of u (mover o))) ≡ true → mover o ≡ mover mine
      pub written : leads_here mine (led_by_entry u (written_of u (mover o))) ≡ true → mover o ≡ mover mine
      pub in_force : leads_here mine (led_by_record u (mover o) (stage_of u (mover o)).in_force) ≡ true → mover o ≡ mover mine
      pub named : leads_here mine (led_by_record u (mover o) (stage_of u (mover o)).written) ≡ true → mover o ≡ mover mine

    pub ways_stepped : RoutesKnown → KnowsWays u mine
    ways_stepped known = record {
      entries = λ x. by_whom (λ x. leads_here mine (led_by_entry u (entry_of u x)) ≡ true → x ≡ mover mine) x known.entry
          (λ other led. ways.entries x
          (ap (λ e. leads_here mine (led_by_entry w e)) (sym (t.in_force x other)) ∙ was_entry (entry_of u x) led));
      written = λ x there. by_whom (λ x. is_vcpu_in w.vms x ≡ true → leads_here mine (led_by_entry u (written_of u x)) ≡ true → x ≡ mover mine) x
          (λ there. known.written)
          (λ other there led. ways.written x there (ap (λ e. leads_here mine (led_by_entry w e))
          (sym (kept_by_touch sent w u o x fits t there other).written)
          ∙ was_entry (written_of u x) led)) (was_there x there);
      records = λ x there. by_whom (λ x. is_vcpu_in w.vms x ≡ true → leads_here mine (led_by_record u x (stage_of u x).in_force) ≡ true
          → x ≡ mover mine) x (λ there. known.in_force)
          (λ other there led. ways.records x there
          (ap (λ (s : Stage). leads_here mine (led_by_record w x s.in_force)) (sym (kept_by_touch sent w u o x fits t there other).stage)
          ∙ was_record x (stage_of u x).in_force led)) (was_there x there);
      named = λ x there. by_whom (λ x. is_vcpu_in w.vms x ≡ true → leads_here mine (led_by_record u x (stage_of u x).written) ≡ true
          → x ≡ mover mine) x (λ there. known.named)
          (λ other there led. ways.named x there
          (ap (λ (s : Stage). leads_here mine (led_by_record w x s.written)) (sym (kept_by_touch sent w u o x fits t there other).stage)
          ∙ was_record x (stage_of u x).written led)) (was_there x there);
      flying = λ v k s is led. ways.flying v k s (ap (λ xs. slice_get xs k) (sym (touched_flights sent w u o v t)) ∙ is) (was_entry s.entry led);
    }

    pub by_apart : RoutesApart u mine o → RoutesKnown
    by_apart apart = record {
      entry = λ led. absurd (false≢true (sym apart.entry ∙ led));
      written = λ led. absurd (false≢true (sym apart.written ∙ led));
      in_force = λ led. absurd (false≢true (sym apart.in_force ∙ led));
      named = λ led. absurd (false≢true (sym apart.named ∙ led));
    }

-- ---- a step of another move

-- it is the fence of its entry
pub fence_step : (w landed u : World) (o : Moving) (hand : Hand) → LandsFirst w o landed → MakesNext landed o u hand → is_at_fence o.home ≡ true
    → Fences w u o.who.found.vm o.who.found.vcpu
fence_step w landed u o hand first step at =
    let is : step.access ≡ Fence = is_the_fence step.access (fence_is_next (width landed) o.home step.access step.is_next ∙ at) in
    let both = first.fence at in
    record { landed = landed; lands = both.0; whole = both.1; fenced = subst (λ (a : Access). Makes a o landed u) is step.makes }
  where
    is_the_fence : (access : Access) → is_fence access ≡ true → access ≡ Fence
    is_the_fence Fence e = refl
    is_the_fence access e = absurd (cc)

-- where its routes lead after it
module _ (w : World) (me : Moving) (other : PlanState) (led : Option GuestPlace) (theirs : InterruptFile) (seen : Bool) (whole : IsWhole w)
    (two : AreApart (moving_of other).home) (fine : IsWithin w.n (width w) theirs) (knows : Knows w other led theirs seen)
    (slots_apart : nat_eq (moving_of other).who.found.slot me.who.found.slot ≡ false)
    (files : (p : GuestPlace) → holds p me.home ≡ true → holds p (moving_of other).home ≡ false) where
  abbrev o : Moving
  o = moving_of other

  pub routes_then : (u : World) (hand : Hand) (step : MakesNext w o u hand) (b : Bool) → is_at_last (width w) o.home ≡ b → RoutesApart u me o
  routes_then u hand step false more =
      let t : Moving = record o { home = one_more o.home; hand = hand } in
      let same = machine_touched (sends step.access o.hand) w u o (step_touches w u o hand whole knows.fits step) in
      let held = goes_kept w u o whole knows.fits two led theirs seen t (record { step = step; more = more; home = refl; same_who = refl }) fine
      knows.holds in
      after_step w u me o whole files same knows.fits slots_apart (one_more o.home) (reach_stepped o.home led) (more_held o.home) held.routes
  routes_then u hand step true last =
      let same = machine_touched (sends step.access o.hand) w u o (step_touches w u o hand whole knows.fits step) in
      let held = ends_kept w u o whole knows.fits two led theirs seen hand (record { step = step; last = last }) fine knows.holds in
      after_step w u me o whole files same knows.fits slots_apart (ended o.home) (reach_stepped o.home led) (ended_held o.home) held.routes

module _ (w : World) (map : TargetMap) (Q : ℕ → Type 0) (me : Moving) (other : PlanState) (reach led : Option GuestPlace) (file theirs :
    InterruptFile) (saw seen : Bool)
    (whole : IsWhole w) (apart : AreApart me.home) (two : AreApart (moving_of other).home) (within : IsWithin w.n (width w) file)
    (fine : IsWithin w.n (width w) theirs) (all : KnowsSo Q w map me reach file saw) (knows : Knows w other led theirs seen)
    (two_harts : mover (moving_of other) ≢ mover me)
    (files : (p : GuestPlace) → holds p me.home ≡ true → holds p (moving_of other).home ≡ false) where
  abbrev it : Moving
  it = moving_of other

  slots_apart : nat_eq it.who.found.slot me.who.found.slot ≡ false
  slots_apart = ne_eqb it.who.found.slot me.who.found.slot (λ e. two_harts (same_slot w.vms (mover it) (mover me) knows.fits.there
      all.places.fits.there
      (sym knows.fits.slot ∙ e ∙ all.places.fits.slot)))

  -- not the fence of its entry
  not_fenced : (u : World) (hand : Hand) → MakesNext w it u hand → KnowsSo Q u map me reach file saw
  not_fenced u hand step =
      let t = step_touches w u it hand whole knows.fits step in
      let same = machine_touched (sends step.access it.hand) w u it t in
      let places = view_stays (sends step.access it.hand) w u it (mover me) me.home whole knows.fits t all.places.fits.there (λ e. two_harts (sym e))
      (λ p held. (mine_there p held, files p held)) in
      record {
        places = knows_by w u Q me reach saw same file file all.places (places_of w (mover me) me.home) places all.places.holds;
        ways = ways_stepped (sends step.access it.hand) w u me it knows.fits t all.ways
            (by_apart (sends step.access it.hand) w u me it knows.fits t all.ways
            (routes_then w me other led theirs seen whole two fine knows slots_apart files u hand step (is_at_last (width w) it.home) refl));
        targets = all.targets;
      }
    where
      mine_there : (p : GuestPlace) → holds p me.home ≡ true → IsThere w.imsic (spot_of p)
      mine_there p held = elim (either_file p me.home held) [ inl own ↦ all.places.fits.own p own | inr next ↦ all.places.fits.next p next ]

  -- the fence of its entry
  fenced : (landed u : World) (hand : Hand) → LandsFirst w it landed → MakesNext landed it u hand → is_at_fence it.home ≡ true
      → KnowsSo Q u map me reach (ways.landed_flight w me (flight_of w it.who.found.vm) file) saw
  fenced landed u hand first step at =
      let fences = fence_step w landed u it hand first step at in
      let after = fenced_all w u (mover it) map Q me reach file saw whole apart within knows.fits.there all fences in
      subst (λ b. KnowsSo Q u map me (reach_fetched b me reach) (ways.landed_flight w me (flight_of w it.who.found.vm) file) saw)
      (other_one (is_vcpu (mover me) (mover it)) refl) after
    where
      other_one : (b : Bool) → is_vcpu (mover me) (mover it) ≡ b → is_vcpu (mover me) (mover it) ≡ false
      other_one true e = absurd (two_harts (sym (same_vcpu (mover me) (mover it) e)))
      other_one false e = e

  pub other_step : (landed u : World) (hand : Hand) → LandsFirst w it landed → MakesNext landed it u hand
      → KnowsSo Q u map me reach (landed_before w it me file) saw
  other_step landed u hand first step = by_fence (is_at_fence it.home) refl
    where
      by_fence : (b : Bool) → is_at_fence it.home ≡ b
          → KnowsSo Q u map me reach (if b then ways.landed_flight w me (flight_of w it.who.found.vm) file else file) saw
      by_fence true at = fenced landed u hand first step at
      by_fence false none = not_fenced u hand (subst (λ (x : World). MakesNext x it u hand) (first.other none) step)
