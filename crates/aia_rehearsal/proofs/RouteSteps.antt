-- What each access of a rehearsal makes of the state for which it stands, the fence of the entry
-- aside.
use Rattle.std.proofs.Common.{◌≡◌, ℕ, ◌+◌, ◌<◌, Bool, true, false, inl, inr, Some, IfSome, refl, sym, ap, ◌∙◌, subst, arith}
use Rattle.std.specs.Prelude.{bit_or}
use Rattle.std.proofs.lemmas.Bool.{cases_Bool}
use Rattle.aia_word.specs.Sets.{has_bit}
use Rattle.aia_file.specs.Mrif.{mrif_in}
use Rattle.aia_regs.specs.declared.limits.TheConstants.{VCPUS}
use Rattle.aia_regs.specs.declared.file_registers.FileReg.{FileReg}
use Rattle.aia_regs.specs.declared.access.Op.TheVariants as ops
use Rattle.aia_file.specs.InterruptFile.{InterruptFile, accessed}
use Rattle.aia_file.specs.FileState.{FileState, shown}
use Rattle.aia_file.proofs.FileLemmas.{same_file}
use Rattle.aia_file.specs.declared.spot.Spot.TheVariants.{SupervisorFile}
use Rattle.aia_file.specs.Imsic.{ImsicState, IsThere, file_at, with_file}
use Rattle.aia_file.proofs.PlaceLemmas.{kept_elsewhere}
use Rattle.aia_entry.specs.Format.{decoded}
use Rattle.aia_vcpu.specs.declared.place.GuestPlace.{GuestPlace}
use Rattle.aia_vcpu.specs.Home.{is_place}
use Rattle.aia_vcpu.specs.declared.rest.Rest.TheVariants.{Parked}
use Rattle.aia_vcpu.specs.Home.Home.{InMemory}
use Rattle.aia_vcpu.specs.Vms.{slot_of}
use Rattle.aia_vcpu_places.specs.Places.{Places, TwoSets, of_file, of_slot, leads_to, entry_word, second_word, IsInMap}
use Rattle.aia_vcpu_places.proofs.EntryLemmas.{entry_back}
use Rattle.aia_fabric_values.specs.World.{World}
use Rattle.aia_fabric_values.specs.Whole.{IsWhole}
use Rattle.aia_fabric_values.specs.Changes.{spot_of, pending_words, enable_words, pending_at, with_pending, enable_at, with_enable, with_state, with_entry_word, with_fence, with_map, with_gfence}
use Rattle.aia_move_values.proofs.ViewLemmas.{here, spots_apart, word0-places, word1-places, fence-places, map-places, gfence-places}
use Rattle.aia_fabric_values.proofs.WholeLemmas.{notice_hart_there}
use Rattle.aia_move_values.specs.Move.{PostsIf, width}
use Rattle.aia_move_values.specs.Touches.{SameMachine}
use Rattle.aia_plan.specs.declared.step.Step.TheVariants.{Word0, Map, GFence, TakeP, PutP, TakeE, PutE}
use Rattle.aia_plan.specs.Transit.{TransitSide, Transit, stepped}
use Rattle.aia_plan.specs.Transit.TransitSide.{Old, New}
use Rattle.aia_rehearsal.specs.declared.place.Place as ends
use Rattle.aia_rehearsal.specs.declared.place.Place.TheVariants.{File, Slot}
use Rattle.aia_rehearsal.specs.Rehearsed.{Passage, Carried, Rehearsed, mover_of, on, at_of, at, file_of, names_on, IsFileThere}
use Rattle.aia_rehearsal.specs.Steps.{identities_in, Puts}
use Rattle.aia_rehearsal.specs.Stands.{sets_at, RoutesSeen, routes_of, SetsStand, RoutesStand, StandsFor}
use Rattle.aia_move_values.proofs.WhoLemmas.{small_who}
use Rattle.aia_rehearsal.proofs.Places.{file_in_map}
use Rattle.aia_rehearsal.proofs.SetSteps.{pending_taken, enables_taken, pending_put, enables_put}
use Rattle.aia_rehearsal.proofs.PlaceSteps.{two_turned, pending_here, enabled_here, pending_shown, enabled_shown, pending_elsewhere, enabled_elsewhere, pending_routes, enabled_routes}
use Rattle.aia_rehearsal.proofs.Carried.{stand_on, same_machine}
use Rattle.aia_vcpu.proofs.HomeLemmas.{same_place}

-- what the places of a virtual hart show of its routes
abbrev routes_in : Places → RoutesSeen
routes_in v = record { word0 = v.word0; word1 = v.word1; in_force = v.in_force; stage = record { written = v.stage; in_force = v.stage_in_force } }

module _ (w : World) (r : Rehearsed) (z : Transit) (whole : IsWhole w) (s : StandsFor w r z) where
  abbrev p : Passage
  p = r.passage

  abbrev q : ℕ
  q = r.passage.who.found.slot

  low : q < VCPUS
  low = (small_who w p.who whole s.of.who).1

  abbrev olds : World → TwoSets
  olds x = sets_at x (at Old r.passage)

  abbrev news : World → TwoSets
  news x = sets_at x (at New r.passage)

  -- ---- the sets

  word_keeps_p : (k v : ℕ) (place : ends.Place) → SameMachine w (with_pending w (at_of q place) k v)
  word_keeps_p k v (File a) = record { n = refl; vms = refl; harts = refl; guests = refl }
  word_keeps_p k v Slot = record { n = refl; vms = refl; harts = refl; guests = refl }

  word_lists_p : (k v : ℕ) (place : ends.Place) → (with_pending w (at_of q place) k v).flights ≡ w.flights
  word_lists_p k v (File a) = refl
  word_lists_p k v Slot = refl

  word_keeps_e : (k v : ℕ) (place : ends.Place) → SameMachine w (with_enable w (at_of q place) k v)
  word_keeps_e k v (File a) = record { n = refl; vms = refl; harts = refl; guests = refl }
  word_keeps_e k v Slot = record { n = refl; vms = refl; harts = refl; guests = refl }

  word_lists_e : (k v : ℕ) (place : ends.Place) → (with_enable w (at_of q place) k v).flights ≡ w.flights
  word_lists_e k v (File a) = refl
  word_lists_e k v Slot = refl

  -- the sets stay, and are those of a state with the same sets
  sets_kept : (y : Transit) → y.old_pending ≡ z.old_pending → y.old_enabled ≡ z.old_enabled → y.new_pending ≡ z.new_pending
      → y.new_enabled ≡ z.new_enabled → y.carried_pending ≡ z.carried_pending → y.carried_enables ≡ z.carried_enables
      → SetsStand (width w) (olds w) (news w) r.hand y
  sets_kept y old_pending old_enabled new_pending new_enabled carried_pending carried_enables = record {
    old_pending = λ i few. ap (λ members. members i) old_pending ∙ s.sets.old_pending i few;
    old_enabled = λ i few. ap (λ members. members i) old_enabled ∙ s.sets.old_enabled i few;
    new_pending = λ i few. ap (λ members. members i) new_pending ∙ s.sets.new_pending i few;
    new_enabled = λ i few. ap (λ members. members i) new_enabled ∙ s.sets.new_enabled i few;
    carried_pending = λ bit few. ap (λ bits. bits bit) carried_pending ∙ s.sets.carried_pending bit few;
    carried_enables = λ bit few. ap (λ bits. bits bit) carried_enables ∙ s.sets.carried_enables bit few;
  }

  -- the routes stay, and are those of a state with the same routes
  routes_kept : (u : World) (y : Transit) → routes_of u (mover_of p) ≡ routes_of w (mover_of p) → y.entry_written ≡ z.entry_written
      → y.entry_in_force ≡ z.entry_in_force → y.record_written ≡ z.record_written → y.record_in_force ≡ z.record_in_force
      → RoutesStand p (routes_of u (mover_of p)) y
  routes_kept u y same written in_force record_written record_in_force = subst (λ x. RoutesStand p x y) (sym same) (record {
    entry_written = s.routes.entry_written ∙ ap (λ side. entry_word q (names_on side p)) (sym written);
    notice = s.routes.notice;
    entry_in_force = s.routes.entry_in_force ∙ ap (λ side. leads_to q p.who.found.notice (names_on side p)) (sym in_force);
    record_written = s.routes.record_written ∙ ap (λ side. names_on side p) (sym record_written);
    record_in_force = s.routes.record_in_force ∙ ap (λ side. names_on side p) (sym record_in_force);
  })

  pub take_pending : (k : ℕ) → k < width w → k < pending_words w (at Old p)
      → StandsFor (with_pending w (at Old p) k 0) (record r { hand = record r.hand { pending = pending_at w (at Old p) k } }) (stepped (TakeP k) z)
  take_pending k inside few =
      let sets = pending_taken (width w) k (olds w) (news w) r.hand z inside s.sets (pending_at w (at Old p) k)
      (pending_shown w q k 0 whole low p.old few) in
      stand_on w (with_pending w (at Old p) k 0) r (record r.hand { pending = pending_at w (at Old p) k }) z (stepped (TakeP k) z)
      (word_keeps_p k 0 p.old) (word_lists_p k 0 p.old) refl
      (rw (pending_here w q k 0 whole low p.old s.of.old few, pending_elsewhere w q k 0 whole low p.old p.new s.two s.of.old s.of.new) sets)
      (routes_kept (with_pending w (at Old p) k 0) (stepped (TakeP k) z) (pending_routes w q k 0 whole low (mover_of p) p.old few) refl refl
      refl refl) s

  pub take_enables : (k : ℕ) → k < width w → k < enable_words w (at Old p)
      → StandsFor (with_enable w (at Old p) k 0) (record r { hand = record r.hand { enables = enable_at w (at Old p) k } }) (stepped (TakeE k) z)
  take_enables k inside few =
      let sets = enables_taken (width w) k (olds w) (news w) r.hand z inside s.sets (enable_at w (at Old p) k)
      (enabled_shown w q k 0 whole low p.old few) in
      stand_on w (with_enable w (at Old p) k 0) r (record r.hand { enables = enable_at w (at Old p) k }) z (stepped (TakeE k) z)
      (word_keeps_e k 0 p.old) (word_lists_e k 0 p.old) refl
      (rw (enabled_here w q k 0 whole low p.old s.of.old few, enabled_elsewhere w q k 0 whole low p.old p.new s.two s.of.old s.of.new) sets)
      (routes_kept (with_enable w (at Old p) k 0) (stepped (TakeE k) z) (enabled_routes w q k 0 whole low (mover_of p) p.old few) refl refl
      refl refl) s

  pub put_pending : (k : ℕ) → k < width w → k < pending_words w (at New p)
      → StandsFor (with_pending w (at New p) k (bit_or (pending_at w (at New p) k) (identities_in k r.hand.pending)))
      (record r { hand = record r.hand { pending = 0 } }) (stepped (PutP k) z)
  put_pending k inside few =
      let v = bit_or (pending_at w (at New p) k) (identities_in k r.hand.pending) in
      let sets = pending_put (width w) k (olds w) (news w) r.hand z inside s.sets (pending_at w (at New p) k)
      (pending_shown w q k 0 whole low p.new few) in
      stand_on w (with_pending w (at New p) k v) r (record r.hand { pending = 0 }) z (stepped (PutP k) z) (word_keeps_p k v p.new)
      (word_lists_p k v p.new) refl
      (rw (
        pending_here w q k v whole low p.new s.of.new few,
        pending_elsewhere w q k v whole low p.new p.old (two_turned p.old p.new s.two) s.of.new s.of.old,
      ) sets)
      (routes_kept (with_pending w (at New p) k v) (stepped (PutP k) z) (pending_routes w q k v whole low (mover_of p) p.new few) refl refl
      refl refl) s

  pub put_enables : (k : ℕ) → k < width w → k < enable_words w (at New p)
      → StandsFor (with_enable w (at New p) k (identities_in k r.hand.enables)) (record r { hand = record r.hand { enables = 0 } })
      (stepped (PutE k) z)
  put_enables k inside few =
      let v = identities_in k r.hand.enables in
      let sets = enables_put (width w) k (olds w) (news w) r.hand z inside s.sets in
      stand_on w (with_enable w (at New p) k v) r (record r.hand { enables = 0 }) z (stepped (PutE k) z) (word_keeps_e k v p.new)
      (word_lists_e k v p.new) refl
      (rw (
        enabled_here w q k v whole low p.new s.of.new few,
        enabled_elsewhere w q k v whole low p.new p.old (two_turned p.old p.new s.two) s.of.new s.of.old,
      ) sets)
      (routes_kept (with_enable w (at New p) k v) (stepped (PutE k) z) (enabled_routes w q k v whole low (mover_of p) p.new few) refl refl
      refl refl) s

  -- ---- what leaves the state alone

  -- the same sets and routes
  pub all_kept : (u : World) (hand : Carried) → SameMachine w u → u.flights ≡ w.flights → olds u ≡ olds w → news u ≡ news w
      → routes_of u (mover_of p) ≡ routes_of w (mover_of p) → hand.pending ≡ r.hand.pending → hand.enables ≡ r.hand.enables
      → StandsFor u (record r { hand = hand }) z
  all_kept u hand same lists old new routes pending enables =
      stand_on w u r hand z z same lists refl (rw (old, new) (record {
        old_pending = s.sets.old_pending;
        old_enabled = s.sets.old_enabled;
        new_pending = s.sets.new_pending;
        new_enabled = s.sets.new_enabled;
        carried_pending = λ bit few. s.sets.carried_pending bit few ∙ ap (λ x. has_bit x bit) (sym pending);
        carried_enables = λ bit few. s.sets.carried_enables bit few ∙ ap (λ x. has_bit x bit) (sym enables);
      })) (routes_kept u z routes refl refl refl refl) s

  -- what is carried of the numbers and looks is nothing to it
  pub seen_more : (hand : Carried) → hand.pending ≡ r.hand.pending → hand.enables ≡ r.hand.enables → StandsFor w (record r { hand = hand }) z
  seen_more hand pending enables = all_kept w hand (same_machine w) refl refl refl refl pending enables

  -- a file has the same sets after a register of its numbers was written
  file_kept : (a : GuestPlace) (f : FileState) → of_file (shown f) ≡ of_file (shown (file_at w.imsic (spot_of a))) → IsThere w.imsic (spot_of a)
      → (b : ends.Place) → IsFileThere w b → sets_at (with_state w (spot_of a) f) (at_of q b) ≡ sets_at w (at_of q b)
  file_kept a f same there Slot inside = refl
  file_kept a f same there (File b) inside = elim (cases_Bool (is_place b a)) [
    | inl e ↦ let is : b ≡ a = same_place b a e in
        subst (λ x. of_file (shown (file_at (with_state w (spot_of a) f).imsic (spot_of x))) ≡ of_file (shown (file_at w.imsic (spot_of x))))
        (sym is) (ap (λ x. of_file (shown x)) (here w (spot_of a) f whole there) ∙ same)
    | inr ne ↦ ap (λ x. of_file (shown x)) (kept_elsewhere w.imsic (spot_of a) (spot_of b) f there inside (spots_apart b a ne))
  ]

  pub number_put : (u : World) (place : ends.Place) (reg : FileReg) (v : ℕ) (hand : Carried)
      → ((file : InterruptFile) → of_file (accessed reg (ops.Write v) file) ≡ of_file file) → IsFileThere w place → Puts w u place reg v
      → hand.pending ≡ r.hand.pending → hand.enables ≡ r.hand.enables → StandsFor u (record r { hand = hand }) z
  number_put u Slot reg v hand keeps there puts pending enables =
      subst (λ x. StandsFor x (record r { hand = hand }) z) (sym puts) (all_kept w hand (same_machine w) refl refl refl refl pending enables)
  number_put u (File a) reg v hand keeps there puts pending enables =
      let f = file_at u.imsic (spot_of a) in
      let same : of_file (shown f) ≡ of_file (shown (file_at w.imsic (spot_of a))) =
      ap of_file (same_file (shown f) (accessed reg (ops.Write v) (shown (file_at w.imsic (spot_of a)))) puts.lands)
      ∙ keeps (shown (file_at w.imsic (spot_of a))) in
      subst (λ x. StandsFor x (record r { hand = hand }) z) (sym puts.others)
      (all_kept (with_state w (spot_of a) f) hand (record { n = refl; vms = refl; harts = refl; guests = refl }) refl
      (file_kept a f same there p.old s.of.old) (file_kept a f same there p.new s.of.new) refl pending enables)

  -- a notice lands in a file of the host
  pub posted : (u : World) (seen : Bool) → PostsIf seen w u p.who.found.notice (q + 1) → StandsFor u r z
  posted u false e = subst (λ x. StandsFor x r z) (sym e) s
  posted u true posts =
      let hart : p.who.found.notice < w.imsic.harts = let there = notice_hart_there w (mover_of p) whole s.of.who.there in
      omega (arith, there, s.of.who.notice) in
      let f = file_at u.imsic (SupervisorFile p.who.found.notice) in
      let same : u ≡ record w { imsic = with_file w.imsic (SupervisorFile p.who.found.notice) f; notices = u.notices } = posts.rest
      ∙ ap (λ (j : ImsicState). record w { imsic = j; notices = u.notices }) posts.lands.others in
      subst (λ x. StandsFor x r z) (sym same) (all_kept
      (record w { imsic = with_file w.imsic (SupervisorFile p.who.found.notice) f; notices = u.notices }) r.hand
      (record { n = refl; vms = refl; harts = refl; guests = refl }) refl
      (guest_kept f hart p.old s.of.old) (guest_kept f hart p.new s.of.new) refl refl refl)
    where
      guest_kept : (f : FileState) → p.who.found.notice < w.imsic.harts → (b : ends.Place) → IsFileThere w b
          → sets_at (record w { imsic = with_file w.imsic (SupervisorFile p.who.found.notice) f; notices = u.notices }) (at_of q b) ≡ sets_at
          w (at_of q b)
      guest_kept f hart Slot inside = refl
      guest_kept f hart (File b) inside = ap (λ x. of_file (shown x))
          (kept_elsewhere w.imsic (SupervisorFile p.who.found.notice) (spot_of b) f hart inside (λ e. absurd (cc)))

  -- ---- the routes

  -- a word of the entry is written
  table_kept : (u : World) → u.imsic ≡ w.imsic → u.vms ≡ w.vms
      → mrif_in u.memory (slot_of u.vms (mover_of p)) ≡ mrif_in w.memory (slot_of w.vms (mover_of p)) → (b : ends.Place)
      → sets_at u (at_of q b) ≡ sets_at w (at_of q b)
  table_kept u imsic vms slot (File b) = ap (λ (i : ImsicState). of_file (shown (file_at i (spot_of b)))) imsic
  table_kept u imsic vms slot Slot =
      ap (λ n. of_slot (mrif_in u.memory n)) (s.of.who.slot ∙ ap (λ v. slot_of v (mover_of p)) (sym vms)) ∙ ap of_slot slot
      ∙ ap (λ n. of_slot (mrif_in w.memory n)) (sym s.of.who.slot)

  pub write_notice : StandsFor (with_entry_word w p.who.found.vm p.who.found.vcpu 1 (second_word q p.who.found.notice)) r z
  write_notice =
      let u = with_entry_word w p.who.found.vm p.who.found.vcpu 1 (second_word q p.who.found.notice) in
      let seen = word1-places w (mover_of p) (InMemory Parked) whole s.of.who.there (second_word q p.who.found.notice) in
      let slot : mrif_in u.memory (slot_of u.vms (mover_of p)) ≡ mrif_in w.memory (slot_of w.vms (mover_of p)) = ap (λ (v : Places). v.slot) seen in
      stand_on w u r r.hand z z (record { n = refl; vms = refl; harts = refl; guests = refl }) refl refl
      (rw (table_kept u refl refl slot p.old, table_kept u refl refl slot p.new) s.sets)
      (subst (λ x. RoutesStand p x z) (sym (ap routes_in seen))
      (record {
        entry_written = s.routes.entry_written;
        notice = refl;
        entry_in_force = s.routes.entry_in_force;
        record_written =
            s.routes.record_written;
        record_in_force = s.routes.record_in_force;
      })) s

  pub write_entry : StandsFor (with_entry_word w p.who.found.vm p.who.found.vcpu 0 (entry_word q (names_on New p))) r (stepped Word0 z)
  write_entry =
      let u = with_entry_word w p.who.found.vm p.who.found.vcpu 0 (entry_word q (names_on New p)) in
      let seen = word0-places w (mover_of p) (InMemory Parked) whole s.of.who.there (entry_word q (names_on New p)) in
      let slot : mrif_in u.memory (slot_of u.vms (mover_of p)) ≡ mrif_in w.memory (slot_of w.vms (mover_of p)) = ap (λ (v : Places). v.slot) seen in
      stand_on w u r r.hand z (stepped Word0 z) (record { n = refl; vms = refl; harts = refl; guests = refl }) refl refl
      (rw (table_kept u refl refl slot p.old, table_kept u refl refl slot p.new) (sets_kept (stepped Word0 z) refl refl refl refl refl refl))
      (subst (λ x. RoutesStand p x (stepped Word0 z)) (sym (ap routes_in seen))
      (record {
        entry_written = refl;
        notice = s.routes.notice;
        entry_in_force = s.routes.entry_in_force;
        record_written =
            s.routes.record_written;
        record_in_force = s.routes.record_in_force;
      })) s

  pub write_record : StandsFor (with_map w (mover_of p) (names_on New p)) r (stepped Map z)
  write_record =
      let u = with_map w (mover_of p) (names_on New p) in
      let seen = map-places w (mover_of p) (InMemory Parked) whole s.of.who.there (names_on New p) in
      stand_on w u r r.hand z (stepped Map z) (record { n = refl; vms = refl; harts = refl; guests = refl }) refl refl
      (rw (table_kept u refl refl refl p.old, table_kept u refl refl refl p.new) (sets_kept (stepped Map z) refl refl refl refl refl refl))
      (subst (λ x. RoutesStand p x (stepped Map z)) (sym (ap routes_in seen))
      (record {
        entry_written = s.routes.entry_written;
        notice = s.routes.notice;
        entry_in_force = s.routes.entry_in_force;
        record_written =
            refl;
        record_in_force = s.routes.record_in_force;
      })) s

  pub fence_record : StandsFor (with_gfence w (mover_of p)) r (stepped GFence z)
  fence_record =
      let u = with_gfence w (mover_of p) in
      let seen = gfence-places w (mover_of p) (InMemory Parked) whole s.of.who.there in
      stand_on w u r r.hand z (stepped GFence z) (record { n = refl; vms = refl; harts = refl; guests = refl }) refl refl
      (rw (table_kept u refl refl refl p.old, table_kept u refl refl refl p.new) (sets_kept (stepped GFence z) refl refl refl refl refl refl))
      (subst (λ x. RoutesStand p x (stepped GFence z)) (sym (ap routes_in seen))
      (record {
        entry_written = s.routes.entry_written;
        notice = s.routes.notice;
        entry_in_force = s.routes.entry_in_force;
        record_written =
            s.routes.record_written;
        record_in_force = s.routes.record_written;
      })) s

  -- the entry is put in force
  named_in_map : (side : TransitSide) (a : GuestPlace) → names_on side p ≡ Some a → IsInMap a
  named_in_map side a e = in_map (on side p) e (there side)
    where
      there : (side : TransitSide) → IsFileThere w (on side p)
      there Old = s.of.old
      there New = s.of.new

      in_map : (b : ends.Place) → file_of b ≡ Some a → IsFileThere w b → IsInMap a
      in_map (File b) e inside = subst (λ o. IfSome o IsInMap) e (let fits = file_in_map w b whole inside in (fits.0, fits.1, inside.1))
      in_map Slot e inside = absurd (cc)

  pub refetched : StandsFor (with_fence w p.who.found.vm p.who.found.vcpu) r (record z { entry_in_force = z.entry_written })
  refetched =
      let u = with_fence w p.who.found.vm p.who.found.vcpu in
      let y : Transit = record z { entry_in_force = z.entry_written } in
      let seen = fence-places w (mover_of p) (InMemory Parked) whole s.of.who.there in
      let small = small_who w p.who whole s.of.who in
      let in_force : decoded (routes_of w (mover_of p)).word0 (routes_of w (mover_of p)).word1 ≡ leads_to q p.who.found.notice
      (names_on z.entry_written p) =
      ap (λ x. decoded x (routes_of w (mover_of p)).word1) s.routes.entry_written
      ∙ ap (decoded (entry_word q (names_on z.entry_written p))) s.routes.notice
      ∙ entry_back q p.who.found.notice (names_on z.entry_written p) small.1 small.2 (named_in_map z.entry_written) in
      stand_on w u r r.hand z y (record { n = refl; vms = refl; harts = refl; guests = refl }) refl refl
      (rw (table_kept u refl refl refl p.old, table_kept u refl refl refl p.new) (sets_kept y refl refl refl refl refl refl))
      (subst (λ x. RoutesStand p x y) (sym (ap routes_in seen))
      (record {
        entry_written = s.routes.entry_written;
        notice = s.routes.notice;
        entry_in_force = in_force;
        record_written =
            s.routes.record_written;
        record_in_force = s.routes.record_in_force;
      })) s
