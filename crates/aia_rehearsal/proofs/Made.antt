-- A fabric as it is made, with one VM, stands for a state.
use Rattle.std.proofs.Common.{◌≡◌, ◌≢◌, ℕ, zero, suc, ◌+◌, ◌/◌, ◌<◌, true, false, List, [], ◌∷◌, get_or, None, refl, sym, ap, ◌∙◌, subst, arith}
use Rattle.std.specs.Prelude.{slice_index_or}
use Rattle.std.specs.List.{All}
use Rattle.std.proofs.lemmas.Bool.{cond-true, ltb-true, lt-ltb}
use Rattle.std.proofs.lemmas.List.{get_or-replicate}
use Rattle.std.proofs.lemmas.List.Elements.{All-nil}
use Rattle.aia_file.specs.Imsic.{ImsicState, IsThere, file_at}
use Rattle.aia_entry.specs.Tables.{table_of, entry_in_force}
use Rattle.aia_vcpu.specs.declared.place.GuestPlace.{GuestPlace}
use Rattle.aia_vcpu.specs.declared.vm.Vm.{Vm}
use Rattle.aia_vcpu.specs.Vms.{Vcpu, vcpu_of, is_vcpu_in, slot_of, notice_hart, vcpus_in}
use Rattle.aia_fabric_values.specs.declared.flying.Flying.{Flying}
use Rattle.aia_fabric_values.specs.declared.stage.Stage.{Stage}
use Rattle.aia_fabric_values.specs.World.{World, flight_of, stage_of, no_stage}
use Rattle.aia_fabric_values.specs.Whole.{IsWhole}
use Rattle.aia_fabric_values.specs.Making.{IsNew, MakesVm, new_world, made_entry, entry_word_place, notice_page}
use Rattle.aia_move_values.proofs.ViewLemmas.{slot_low}
use Rattle.aia_regs.specs.declared.limits.TheConstants.{VCPUS}
use Rattle.aia_regs.specs.declared.address_map.TheConstants.{PAGE}
use Rattle.aia_regs.specs.AddressMap.{supervisor_page, slot_address}
use Rattle.aia_entry.specs.declared.entry.Entry.TheVariants.{Mrif}
use Rattle.aia_entry.specs.Format.{mrif_word, notice_word}
use Rattle.aia_vcpu_places.specs.Places.{leads_to, entry_word}
use Rattle.aia_file.specs.FileState.{shown}
use Rattle.aia_file.specs.InterruptFile.{SameFile, empty_file}
use Rattle.aia_fabric_values.specs.Changes.{spot_of}
use Rattle.aia_move_values.specs.declared.who.Who.{Who}
use Rattle.aia_move_values.specs.Move.{IsWho}
use Rattle.aia_plan.specs.Transit.{TransitSide}
use Rattle.aia_plan.specs.Transit.TransitSide.{Old, New}
use Rattle.aia_rehearsal.specs.declared.place.Place as ends
use Rattle.aia_rehearsal.specs.declared.place.Place.TheVariants.{File, Slot}
use Rattle.aia_rehearsal.specs.Rehearsed.{Passage, Rehearsed, on, names_on, empty_hand}
use Rattle.aia_rehearsal.specs.Stands.{routes_of, leads, StandsFor}
use Rattle.aia_rehearsal.specs.Runs.{LeadsTo, NoneLeads, state_at, IsBegun}
use Rattle.std.proofs.lemmas.Bool.{cases_eq, cases_Bool, ne_eqb, cond-false}
use Rattle.std.proofs.Common.{inl, inr, nat_lt, length, Some, ◌≤◌}
use Rattle.std.proofs.lemmas.List.{get_or_past}
use Rattle.aia_regs.specs.BitUpdate.{names}
use Rattle.aia_regs.specs.declared.limits.TheConstants.{HARTS}
use Rattle.aia_entry.specs.declared.entry.Entry.TheVariants.{NotValid}
use Rattle.aia_entry.specs.Format.{decoded}
use Rattle.aia_entry.specs.Tables.{no_table}
use Rattle.aia_vcpu_places.specs.Places.{second_word}
use Rattle.aia_vcpu_places.proofs.EntryLemmas.{entry_back}
use Rattle.aia_fabric_values.proofs.PlaceLemmas.{slot_found}
use Rattle.aia_fabric_values.proofs.WholeLemmas.{notice_hart_there}
use Rattle.aia_rehearsal.specs.Stands.{side_of}
use Rattle.aia_rehearsal.specs.Events.{IsAlone}
use Rattle.aia_vcpu.specs.Home.{is_place}
use Rattle.aia_fabric_values.specs.Changes.{with_entry_word, with_fence, with_map, with_gfence}
use Rattle.aia_plan.specs.declared.step.Step.TheVariants.{Word0, Map, GFence}
use Rattle.aia_plan.specs.Transit.{stepped, happened}
use Rattle.aia_plan.specs.Transit.{Happening as happenings}
use Rattle.aia_rehearsal.proofs.RouteSteps.{write_entry, refetched, write_record, fence_record}
use Rattle.aia_rehearsal.proofs.Theorem.{led_stands, begun_stands}

module _ (files : ImsicState) (w : World) (n harts guests : ℕ) (vm : Vm) (who : Who) (new : IsNew (new_world files n) harts guests n)
    (whole : IsWhole w) (makes : MakesVm (new_world files n) w vm) (is : IsWho w who) (first : who.found.vm ≡ 0) where
  abbrev g : Vcpu
  g = vcpu_of who.found.vm who.found.vcpu

  vcpu_low : who.found.vcpu < vm.vcpus
  vcpu_low = ltb-true _ _ (sym (ap (λ vms. is_vcpu_in vms g) makes.vms ∙ ap (λ v. is_vcpu_in (vm ∷ []) (vcpu_of v who.found.vcpu)) first) ∙ is.there)

  none_before : 0 + who.found.vcpu ≡ who.found.slot
  none_before = sym (is.slot ∙ ap (λ vms. slot_of vms g) makes.vms ∙ ap (λ v. slot_of (vm ∷ []) (vcpu_of v who.found.vcpu)) first)

  notice_is : vm.notice_hart ≡ who.found.notice
  notice_is = sym (is.notice ∙ ap (λ vms. notice_hart vms g) makes.vms ∙ ap (λ v. notice_hart (vm ∷ []) (vcpu_of v who.found.vcpu)) first)

  stage_is : stage_of w g ≡ no_stage
  stage_is = let low = slot_low w g whole is.there in ap (λ (x : World). slice_index_or x.stages (slot_of w.vms g) no_stage) makes.rest
      ∙ get_or-replicate VCPUS (slot_of w.vms g) no_stage no_stage low

  none_flies : (v : ℕ) → flight_of w v ≡ []
  none_flies v = ap (λ lists. slice_index_or lists v []) makes.flights ∙ none v
    where
      no_stores : List Flying
      no_stores = []

      none : (v : ℕ) → flight_of (record w { flights = [] ∷ [] }) v ≡ []
      none zero = refl
      none (suc v) = refl

  none_leads : (p : Passage) (side : TransitSide) (v : ℕ) → NoneLeads w p side v
  none_leads p side v = subst (λ l. All (λ (store : Flying). leads w.imsic p.who.found.slot (on side p) store.entry ≡ false) l)
      (sym (none_flies v)) (All-nil _)

  -- all leads to the slot
  module _ (old place : ends.Place) where
    abbrev p : Passage
    p = record { who = who; old = old; new = place }

    led : (side : TransitSide) → names_on side p ≡ None → LeadsTo w p side
    led side none = record {
      word0 = ap (λ v. get_or w.memory (entry_word_place v who.found.vcpu) 0) first ∙ makes.word0 who.found.vcpu vcpu_low
          ∙ ap (λ q. mrif_word (slot_address q)) none_before ∙ ap (entry_word who.found.slot) (sym none);
      word1 = ap (λ v. get_or w.memory (entry_word_place v who.found.vcpu + 1) 0) first ∙ makes.word1 who.found.vcpu vcpu_low
          ∙ ap (λ q. notice_word (notice_page vm) (q + 1)) none_before
          ∙ ap (λ hart. notice_word (supervisor_page hart / PAGE) (who.found.slot + 1)) notice_is;
      in_force = ap (λ v. entry_in_force (table_of w.tables v) who.found.vcpu) first ∙ makes.in_force who.found.vcpu
          ∙ cond-true _ _ _ (lt-ltb _ _ vcpu_low) ∙ ap (λ q. Mrif (slot_address q) (notice_page vm) (q + 1)) none_before
          ∙ ap (λ hart. Mrif (slot_address who.found.slot) (supervisor_page hart / PAGE) (who.found.slot + 1)) notice_is
          ∙ ap (leads_to who.found.slot who.found.notice) (sym none);
      record_written = ap (λ (x : Stage). x.written) stage_is ∙ sym none;
      record_in_force = ap (λ (x : Stage). x.in_force) stage_is ∙ sym none;
    }

  -- the entries and records of the others lead to their own slots
  module _ (a : GuestPlace) where
    abbrev arrival : Passage
    arrival = record { who = who; old = Slot; new = File a }

    other_slot : (n page identity : ℕ) → n < VCPUS → n ≢ who.found.slot → side_of w.imsic arrival (Mrif (slot_address n) page identity) ≡ None
    other_slot n page identity low other = cond-false _ _ _
        (ap (λ o. names o who.found.slot) (slot_found n low) ∙ ne_eqb n who.found.slot other) ∙ refl

    not_valid : side_of w.imsic arrival NotValid ≡ None
    not_valid = refl

    plus_none : (n : ℕ) → 0 + n ≡ n
    plus_none n = omega arith

    other_number : (n : ℕ) → g ≢ vcpu_of who.found.vm n → n ≢ who.found.slot
    other_number n other e = other (let same : who.found.vcpu ≡ n = sym (plus_none who.found.vcpu) ∙ none_before
        ∙ sym e in λ k. vcpu_of who.found.vm (same k))

    few_vcpus : vm.vcpus ≤ VCPUS
    few_vcpus = let total : vcpus_in w.vms ≡ vm.vcpus + 0 = ap vcpus_in makes.vms in let most = whole.vcpus in omega (arith, total, most)

    made_elsewhere : (n : ℕ) → g ≢ vcpu_of who.found.vm n → side_of w.imsic arrival (made_entry vm 0 n) ≡ None
    made_elsewhere n other = elim (cases_Bool (nat_lt n vm.vcpus)) [
      | inl inside ↦ ap (side_of w.imsic arrival) (cond-true _ _ _ inside)
          ∙ ap (λ q. side_of w.imsic arrival (Mrif (slot_address q) (notice_page vm) (q + 1))) (plus_none n)
          ∙ other_slot n (notice_page vm) (n + 1) (let low : n < vm.vcpus = ltb-true _ _ inside in omega (arith, low, few_vcpus))
          (other_number n other)
      | inr past ↦ ap (side_of w.imsic arrival) (cond-false _ _ _ past) ∙ not_valid
    ]

    in_force_elsewhere : (x : Vcpu) → x ≢ g → side_of w.imsic arrival (entry_in_force (table_of w.tables x.vm) x.vcpu) ≡ None
    in_force_elsewhere x other = elim (cases_eq x.vm 0) [
      | inl zero_vm ↦ ap (λ v. side_of w.imsic arrival (entry_in_force (table_of w.tables v) x.vcpu)) zero_vm
          ∙ ap (side_of w.imsic arrival) (makes.in_force x.vcpu)
          ∙ made_elsewhere x.vcpu (λ e. other (let vcpu : who.found.vcpu ≡ x.vcpu = ap (λ (y : Vcpu). y.vcpu) e in
          λ k. vcpu_of ((zero_vm ∙ sym first) k) (sym vcpu k)))
      | inr some_vm ↦
          let past : length w.tables ≤ x.vm = let one : length w.tables ≡ 0 + 1 = makes.count in omega (arith, one, some_vm) in
          ap (λ t. side_of w.imsic arrival (entry_in_force t x.vcpu)) (get_or_past w.tables x.vm no_table past) ∙ not_valid
    ]

    first_vm : (x : Vcpu) → is_vcpu_in w.vms x ≡ true → (x.vm ≡ 0) × (x.vcpu < vm.vcpus)
    first_vm x there = by_vm x.vm refl (ap (λ vms. is_vcpu_in vms x) (sym makes.vms) ∙ there)
      where
        by_vm : (v : ℕ) → x.vm ≡ v → is_vcpu_in (vm ∷ []) x ≡ true → (x.vm ≡ 0) × (x.vcpu < vm.vcpus)
        by_vm zero is inside = (is, ltb-true _ _ (sym (ap (λ n. is_vcpu_in (vm ∷ []) (vcpu_of n x.vcpu)) is) ∙ inside))
        by_vm (suc v) is inside = let none : is_vcpu_in (vm ∷ []) (vcpu_of (suc v) x.vcpu) ≡ true =
            sym (ap (λ n. is_vcpu_in (vm ∷ []) (vcpu_of n x.vcpu)) is) ∙ inside in absurd (omega (arith, ltb-true _ _ none))

    written_elsewhere : (x : Vcpu) → is_vcpu_in w.vms x ≡ true → x ≢ g
        → side_of w.imsic arrival (decoded (routes_of w x).word0 (routes_of w x).word1) ≡ None
    written_elsewhere x there other =
        let at = first_vm x there in
        let low : x.vcpu < VCPUS = let small = at.1 in omega (arith, small, few_vcpus) in
        let hart : vm.notice_hart < HARTS = let there_hart = notice_hart_there w g whole is.there in
        omega (arith, there_hart, is.notice, notice_is, whole.harts) in
        let word0 : (routes_of w x).word0 ≡ entry_word x.vcpu None = ap (λ v. get_or w.memory (entry_word_place v x.vcpu) 0) at.0
        ∙ makes.word0 x.vcpu at.1 ∙ ap (λ q. mrif_word (slot_address q)) (plus_none x.vcpu) in
        let word1 : (routes_of w x).word1 ≡ second_word x.vcpu vm.notice_hart =
        ap (λ v. get_or w.memory (entry_word_place v x.vcpu + 1) 0) at.0 ∙ makes.word1 x.vcpu at.1
        ∙ ap (λ q. notice_word (notice_page vm) (q + 1)) (plus_none x.vcpu) in
        ap (λ n. side_of w.imsic arrival (decoded n (routes_of w x).word1)) word0
        ∙ ap (λ n. side_of w.imsic arrival (decoded (entry_word x.vcpu None) n)) word1
        ∙ ap (side_of w.imsic arrival) (entry_back x.vcpu vm.notice_hart None low hart (λ p e. absurd (cc)))
        ∙ other_slot x.vcpu (supervisor_page vm.notice_hart / PAGE) (x.vcpu + 1) low
        (other_number x.vcpu (λ e. other (let vcpu : who.found.vcpu ≡ x.vcpu = ap (λ (y : Vcpu). y.vcpu) e in
        λ k. vcpu_of ((at.0 ∙ sym first) k) (sym vcpu k))))

    alone : IsAlone w arrival
    alone = record {
      in_force = in_force_elsewhere;
      written = written_elsewhere;
      records = λ x there other side b named e.
          let low = slot_low w x whole there in
          let none : stage_of w x ≡ no_stage = ap (λ (y : World). slice_index_or y.stages (slot_of w.vms x) no_stage) makes.rest
          ∙ get_or-replicate VCPUS (slot_of w.vms x) no_stage no_stage low in
          let empty : None ≡ Some b = sym (ap (λ (y : Stage). y.in_force) none) ∙ e in absurd (cc);
    }

  file_empty : (a : GuestPlace) → IsThere w.imsic (spot_of a) → SameFile (shown (file_at w.imsic (spot_of a))) (empty_file n)
  file_empty a there =
      let same : w.imsic ≡ files = ap (λ (x : World). x.imsic) makes.rest in
      subst (λ (i : ImsicState). SameFile (shown (file_at i (spot_of a))) (empty_file n)) (sym same)
      (new.files.each (spot_of a) (subst (λ (i : ImsicState). IsThere i (spot_of a)) same there))

  arrives : (a : GuestPlace) → IsThere w.imsic (spot_of a)
      → IsBegun w (record { passage = record { who = who; old = Slot; new = File a }; hand = empty_hand })
  arrives a there = record {
    of = record { who = is; old = tt; new = there };
    two = tt;
    alone = alone a;
    routes = led Slot (File a) Old refl;
    flights = λ v. none_leads (record { who = who; old = Slot; new = File a }) New v;
    others = λ v other. none_leads (record { who = who; old = Slot; new = File a }) Old v;
    new_pending = λ i low. (file_empty a there).pending i;
    new_enabled = λ i low. (file_empty a there).enabled i;
    hand = refl;
  }

  -- as a leave has ended
  leaves : (a : GuestPlace) → IsThere w.imsic (spot_of a)
      → StandsFor w (record { passage = record { who = who; old = File a; new = Slot }; hand = empty_hand })
      (state_at New w (record { passage = record { who = who; old = File a; new = Slot }; hand = empty_hand }))
  leaves a there =
      let r : Rehearsed = record { passage = record { who = who; old = File a; new = Slot }; hand = empty_hand } in
      led_stands w r New (record { who = is; old = there; new = tt }) tt (led (File a) Slot New refl) (λ v other. none_leads r.passage Old v)
      (λ v other. none_leads r.passage New v)

-- the same of a fabric that is new
module _ (before w : World) (n harts guests : ℕ) (vm : Vm) (who : Who) (new : IsNew before harts guests n) (whole : IsWhole w)
    (makes : MakesVm before w vm) (is : IsWho w who) (first : who.found.vm ≡ 0) where
  new_here : IsNew (new_world before.imsic n) harts guests n
  new_here = record { world = refl; hart_count = new.hart_count; guest_count = new.guest_count; files = new.files }

  makes_here : MakesVm (new_world before.imsic n) w vm
  makes_here = subst (λ (x : World). MakesVm x w vm) new.world makes

  pub may_arrive : (a : GuestPlace) → IsThere w.imsic (spot_of a)
      → IsBegun w (record { passage = record { who = who; old = Slot; new = File a }; hand = empty_hand })
  may_arrive a there = arrives before.imsic w n harts guests vm who new_here whole makes_here is first a there

  pub has_left : (a : GuestPlace) → IsThere w.imsic (spot_of a)
      → StandsFor w (record { passage = record { who = who; old = File a; new = Slot }; hand = empty_hand })
      (state_at New w (record { passage = record { who = who; old = File a; new = Slot }; hand = empty_hand }))
  has_left a there = leaves before.imsic w n harts guests vm who new_here whole makes_here is first a there

  -- once the entry and the record were written for a file and put in force, it may shift to another one
  pub may_shift : (a b : GuestPlace) → IsThere w.imsic (spot_of a) → IsThere w.imsic (spot_of b) → is_place a b ≡ false → (x y v u : World)
      → IsWhole x → IsWhole y → IsWhole v
      → x ≡ with_entry_word w who.found.vm who.found.vcpu 0 (entry_word who.found.slot (Some a))
      → y ≡ with_fence x who.found.vm who.found.vcpu → v ≡ with_map y (vcpu_of who.found.vm who.found.vcpu) (Some a)
      → u ≡ with_gfence v (vcpu_of who.found.vm who.found.vcpu)
      → StandsFor u (record { passage = record { who = who; old = File a; new = File b }; hand = empty_hand })
      (state_at Old u (record { passage = record { who = who; old = File a; new = File b }; hand = empty_hand }))
  may_shift a b there too apart x y v u whole_x whole_y whole_v e1 e2 e3 e4 =
      let r : Rehearsed = record { passage = record { who = who; old = Slot; new = File a }; hand = empty_hand } in
      let p : Passage = record { who = who; old = File a; new = File b } in
      let z = state_at Old w r in
      let s1 = subst (λ (m : World). StandsFor m r (stepped Word0 z)) (sym e1) (write_entry w r z whole (begun_stands w r (may_arrive a there))) in
      let s2 = subst (λ (m : World). StandsFor m r (happened happenings.Refetches (stepped Word0 z))) (sym e2)
      (refetched x r (stepped Word0 z) whole_x s1) in
      let s3 = subst (λ (m : World). StandsFor m r (stepped Map (happened happenings.Refetches (stepped Word0 z)))) (sym e3)
      (write_record y r (happened happenings.Refetches (stepped Word0 z)) whole_y s2) in
      let s4 = subst (λ (m : World). StandsFor m r (stepped GFence (stepped Map (happened happenings.Refetches (stepped Word0 z))))) (sym e4)
      (fence_record v r (stepped Map (happened happenings.Refetches (stepped Word0 z))) whole_v s3) in
      let files : u.imsic ≡ w.imsic = ap (λ (m : World). m.imsic) e4 ∙ ap (λ (m : World). m.imsic) e3 ∙ ap (λ (m : World). m.imsic) e2
      ∙ ap (λ (m : World). m.imsic) e1 in
      let lists : u.flights ≡ w.flights = ap (λ (m : World). m.flights) e4 ∙ ap (λ (m : World). m.flights) e3 ∙ ap (λ (m : World). m.flights) e2
      ∙ ap (λ (m : World). m.flights) e1 in
      led_stands u (record { passage = p; hand = empty_hand }) Old
      (record {
        who = s4.of.who;
        old = subst (λ (i : ImsicState). IsThere i (spot_of a)) (sym files) there;
        new =
            subst (λ (i : ImsicState). IsThere i (spot_of b)) (sym files) too;
      })
      apart
      (record {
        word0 = s4.routes.entry_written;
        word1 = s4.routes.notice;
        in_force = s4.routes.entry_in_force;
        record_written =
            s4.routes.record_written;
        record_in_force = s4.routes.record_in_force;
      })
      (λ k other. none_in_flight u p Old k lists) (λ k other. none_in_flight u p New k lists)
    where
      none_in_flight : (u : World) (p : Passage) (side : TransitSide) (k : ℕ) → u.flights ≡ w.flights → NoneLeads u p side k
      none_in_flight u p side k lists =
          let none : flight_of u k ≡ [] = ap (λ l. slice_index_or l k []) lists
          ∙ none_flies before.imsic w n harts guests vm who new_here whole makes_here is first k in
          subst (λ l. All (λ (store : Flying). leads u.imsic p.who.found.slot (on side p) store.entry ≡ false) l) (sym none) (All-nil _)
