-- What the making of a VM leaves, and what it is answered.
use Rattle.aia_fabric_values.specs.declared.flying.Flying.{Flying}
use Rattle.aia_model.specs.Flight.{flight}
use Rattle.aia_model.specs.ReachOf.{in_force_of}
use Rattle.aia_vcpu.specs.Routes.{MayReach}
use Rattle.aia_model.proofs.ReachLemmas.{reach_step, in_force_may}
use Rattle.std.proofs.Common.{◌≡◌, Option, ℕ, zero, suc, ◌+◌, ◌*◌, ◌/◌, ◌%◌, ◌^◌, ◌<◌, ◌≤◌, Bool, true, false, not, ◌&&◌, ◌||◌, nat_eq, nat_lt, List, length, map, get_or, replicate, [], ◌∷◌, ◌++◌, None, ◌⊎◌, inl, inr, refl, sym, ap, subst, ◌∙◌, arith, length-append, append_assoc}
use Rattle.std.specs.Prelude.{count_ones}
use Rattle.std.specs.Int.{is_in_range}
use Rattle.std.proofs.Math.ListN.{get_or-append}
use Rattle.std.proofs.lemmas.List.{length-replicate, replicate-append-replicate}
use Rattle.std.proofs.lemmas.Bool.{cases_Bool, cases_lt, cond-true, cond-false, lt-ltb, le-ltb, ltb-true, false≢true}
use Rattle.std.proofs.lemmas.Bool.Decides.{nat_tests}
use Rattle.aia_regs.specs.declared.limits.TheConstants.{VCPUS, MASK_ONES, ENTRIES}
use Rattle.aia_word.specs.Packed.{ones}
use Rattle.aia_regs.specs.AddressMap.{slot_address}
use Rattle.aia_file.specs.InterruptFile.{InterruptFile, empty_file}
use Rattle.aia_file.specs.FileState.{shown}
use Rattle.aia_file.specs.Imsic.{ImsicState, file_at}
use Rattle.aia_file.specs.Mrif.{mrif_in}
use Rattle.aia_file.proofs.SlotLemmas.{one_bit}
use Rattle.aia_entry.specs.declared.entry.Entry.TheVariants as entries
use Rattle.aia_entry.specs.Format.{mrif_word, notice_word}
use Rattle.aia_entry.specs.Tables.{TableState, table_of, entry_in_force}
use Rattle.aia_entry.specs.Translation.{is_mask}
use Rattle.aia_entry.proofs.TableLemmas.{ones_counted, mask_parts}
use Rattle.aia_vcpu.specs.declared.place.GuestPlace.{GuestPlace}
use Rattle.aia_vcpu.specs.declared.vm.Vm.{Vm}
use Rattle.aia_vcpu.specs.Vms.{Vcpu, vcpu_of, is_vcpu_in, vm_in, vcpus_in, slot_of, notice_hart}
use Rattle.aia_vcpu.specs.Home.{holds}
use Rattle.aia_vcpu.specs.declared.rest.Rest.TheVariants.{Parked}
use Rattle.aia_vcpu.specs.Home.Home.{InMemory}
use Rattle.aia_vcpu.proofs.VmLemmas.{slot_below, vm_stays, slot_stays, vm_new, slot_new, vcpus_more, vm_past, old_or_new}
use Rattle.aia_vcpu.proofs.AllLemmas.{any_vcpu, some_vcpu, no_vcpu, of_none}
use Rattle.aia_vcpu_places.specs.Places.{Places, leads_to, entry_word, second_word}
use Rattle.aia_vcpu_places.specs.Holds.{Holds}
use Rattle.aia_vcpu_places.specs.Stores.{AreApart}
use Rattle.aia_pool.specs.Leases.{Leases, is_out}
use Rattle.aia_fabric_values.specs.declared.stage.Stage.{Stage}
use Rattle.aia_fabric_values.specs.World.{World, no_stage, stage_of}
use Rattle.aia_fabric_values.specs.Making.{MakesVm, notice_page, entry_word_place}
use Rattle.aia_fabric_values.specs.Whole.{IsWhole}
use Rattle.aia_fabric_values.specs.Changes.{spot_of}
use Rattle.aia_move_values.specs.Views.{places_of}
use Rattle.aia_move_values.specs.PlanState.{moving_of}
use Rattle.aia_move_values.proofs.WayMade.{pending_stays, enabled_stays, places_made, fits_made}
use Rattle.aia_move_values.specs.Plan.{IsInPhase}
use Rattle.aia_model.specs.declared.answer.Answer.TheVariants.{Okay, Refused}
use Rattle.aia_model.specs.declared.refusal.Refusal.TheVariants as words
use Rattle.aia_model.specs.declared.line.Line.TheVariants as lines
use Rattle.aia_model.specs.Event.{Event, History, has_hart, harts_of, file_words}
use Rattle.aia_model.specs.Event.Event.{Accepted}
use Rattle.aia_model.specs.Vms.{vms_of, has_vcpu}
use Rattle.aia_fabric_values.proofs.WholeLemmas.{vcpu_entry}
use Rattle.aia_model.specs.GuestFile.{guest_deed, guest_file}
use Rattle.aia_major.specs.Kept.{majors_shown}
use Rattle.aia_major.proofs.KeptLemmas.{shown_at_first}
use Rattle.aia_model.specs.HomeOf.{home}
use Rattle.aia_model.specs.Notice.{a_look_saw}
use Rattle.aia_model.specs.Refusal.{is_vm_size, lacks_room}
use Rattle.aia_model.proofs.AnswerLemmas.{vm_refusal}
use Rattle.aia_model.proofs.FileLemmas.{file_by_step}
use Rattle.aia_model.proofs.FlightLemmas.{vm_within}
use Rattle.aia_model.proofs.MoveLemmas.{home_step, seen_stays}
use Rattle.aia_model.specs.Passes.{passes_of}
use Rattle.aia_hyp_values.specs.Passes.{HasItsPasses}
use Rattle.aia_move_values.specs.PlanState.{PlanState}
use Rattle.aia_hyp_values.specs.Core.{Stay}
use Rattle.aia_hyp_values.specs.declared.vcpu.Stay.TheVariants as stays
use Rattle.aia_hyp_values.specs.Core.{VcpuRecord}
use Rattle.aia_hyp_values.specs.Core.{CoreState, no_kept, no_record, record_of, home_in, hand_in}
use Rattle.aia_hyp_values.specs.HostFiles.{host_spot, select_place}
use Rattle.aia_hyp_values.specs.Stands.{flying_of, PlanStands, VcpuStands, StandsForSome, is_held, CoreStands, CoreTakes}
use Rattle.aia_hyp_values.proofs.VcpuLemmas.{IsHeld, select_is, majors_is}
use Rattle.aia_hyp_values.proofs.StandsLemmas.{Becomes, none_passes, stands_after, keeps_by, built_as}
use Rattle.aia_hyp_values.proofs.EventLemmas.{as_it_was, taken, refused}

-- ---- which virtual harts are there

-- who isn't there now was not there before
not_there_before : (vms : List Vm) (vm : Vm) (g : Vcpu) → is_vcpu_in (vms ++ vm ∷ []) g ≡ false → is_vcpu_in vms g ≡ false
not_there_before vms vm g outside = elim (cases_lt g.vm (length vms)) [
  | inl low ↦ ap (λ (v : Vm). nat_lt g.vcpu v.vcpus) (sym (vm_stays vms vm g.vm low)) ∙ outside
  | inr past ↦ le-ltb g.vcpu (vm_in vms g.vm).vcpus (let none = vm_past vms g.vm past in omega (arith, none))
]

-- ---- the records of its virtual harts

pub one_record_more : (new old : List VcpuRecord) (first : List VcpuRecord) (n : ℕ) (r : VcpuRecord) → new ≡ old ++ r ∷ [] → r ≡ no_record
    → old ≡ first ++ replicate n no_record → new ≡ first ++ replicate (n + 1) no_record
one_record_more new old first n r pushed is was =
    pushed ∙ ap (λ rs. rs ++ r ∷ []) was ∙ append_assoc first (replicate n no_record) (r ∷ [])
    ∙ ap (λ x. first ++ (replicate n no_record ++ x ∷ [])) is
    ∙ ap (λ rs. first ++ rs) (replicate-append-replicate n 1 no_record)

no_record_at : (n k : ℕ) → get_or (replicate n (no_record {P = PlanState})) k no_record ≡ no_record
no_record_at zero k = refl
no_record_at (suc n) zero = refl
no_record_at (suc n) (suc k) = no_record_at n k

-- ---- the core after it

pub record HasMade (x y : CoreState) (h : History) (vm : Vm) : Type 0 where
  pub stands : CoreStands x h
  pub whole : IsWhole x.world
  pub makes : MakesVm x.world y.world vm
  pub leases : y.leases ≡ x.leases
  pub vcpus : y.vcpus ≡ x.vcpus ++ replicate vm.vcpus no_record
  pub selects : y.selects ≡ x.selects
  pub passes : y.passes ≡ x.passes
  pub few : vcpus_in (vms_of h) + vm.vcpus ≤ VCPUS

abbrev made_line : Vm → Event
made_line vm = Accepted (lines.Vm vm.vcpus vm.mask vm.notice_hart)

tables_as_vms : (x y : CoreState) (h : History) (vm : Vm) → HasMade x y h vm → length x.world.tables ≡ length (vms_of h)
tables_as_vms x y h vm c = c.whole.tables ∙ ap (λ (vs : List Vm). length vs) c.stands.vms

new_vms : (x y : CoreState) (h : History) (vm : Vm) → HasMade x y h vm → y.world.vms ≡ vms_of h ++ vm ∷ []
new_vms x y h vm c = c.makes.vms ∙ ap (λ vs. vs ++ vm ∷ []) c.stands.vms

-- nothing of a home changes
same_home : (h : History) (vm : Vm) (g : Vcpu) → home (made_line vm ∷ h) g ≡ home h g
same_home h vm g = home_step (made_line vm) h g

same_seen : (h : History) (vm : Vm) (g : Vcpu) → a_look_saw (made_line vm ∷ h) g ≡ a_look_saw h g
same_seen h vm g = seen_stays (made_line vm) h g refl (λ w was. refl)

same_file : (h : History) (vm : Vm) (g : Vcpu) → guest_file (made_line vm ∷ h) g ≡ guest_file h g
same_file h vm g = file_by_step (guest_deed g) (made_line vm) h

-- ---- a virtual hart that was there

-- its number in its VM is small
small : (x y : CoreState) (h : History) (vm : Vm) (g : Vcpu) → HasMade x y h vm → has_vcpu h g ≡ true → g.vcpu < ENTRIES
small x y h vm g c there = (vcpu_entry x.world g.vm g.vcpu c.whole (subst (λ (vs : List Vm). is_vcpu_in vs g ≡ true) (sym c.stands.vms) there)).2

old_record : (x y : CoreState) (h : History) (vm : Vm) (g : Vcpu) → HasMade x y h vm → g.vm < length (vms_of h) → has_vcpu h g ≡ true
    → record_of y g ≡ record_of x g
old_record x y h vm g c low there =
    let below = slot_below (vms_of h) g there in
    let before : slot_of x.world.vms g ≡ slot_of (vms_of h) g = ap (λ vs. slot_of vs g) c.stands.vms in
    let slot : slot_of y.world.vms g ≡ slot_of x.world.vms g = ap (λ vs. slot_of vs g) (new_vms x y h vm c) ∙ slot_stays (vms_of h) vm g low
    ∙ sym before in
    (λ k. get_or (c.vcpus k) (slot k) no_record) ∙ get_or-append x.vcpus (replicate vm.vcpus no_record) no_record (slot_of x.world.vms g)
    (omega (arith, below, before, c.stands.records))

-- the plan of its move can go on
none_by_vm : (h : History) (vm : Vm) → passes_of (made_line vm ∷ h) ≡ passes_of h
unfolding passes_of
none_by_vm h vm = refl

plan_grown : (x y : CoreState) (h : History) (vm : Vm) (g : Vcpu) (stay : Stay) → HasMade x y h vm → g.vm < length (vms_of h)
    → PlanStands x.world g stay → PlanStands y.world g stay
plan_grown x y h vm g (stays.InMemory rest kept) c low p = tt
plan_grown x y h vm g (stays.Resident lease) c low p = tt
plan_grown x y h vm g (stays.Moving plan) c low p = (
  fits_made x.world y.world vm (moving_of plan) c.whole c.makes p.0,
  subst (λ (w : World). IsInPhase ((w.n + 1) / 64) plan) (sym c.makes.rest) p.1,
  p.2,
  p.3,
)

old_stands : (x y : CoreState) (h : History) (vm : Vm) (g : Vcpu) → HasMade x y h vm → g.vm < length (vms_of h) → has_vcpu h g ≡ true
    → VcpuStands y (made_line vm ∷ h) g
old_stands x y h vm g c low there =
    let p = c.stands.vcpus g there in
    let same = old_record x y h vm g c low there in
    let shows = places_made x.world y.world vm c.whole c.makes g (subst (λ (vs : List Vm). is_vcpu_in vs g ≡ true) (sym c.stands.vms) there) (home h
    g) in
    let slot = slot_stays (vms_of h) vm g low in
    let hart : notice_hart (vms_of h ++ vm ∷ []) g ≡ notice_hart (vms_of h) g = ap (λ (v : Vm). v.notice_hart) (vm_stays (vms_of h) vm g.vm low) in
    record {
      same_home = ap (λ (r : VcpuRecord). home_in r.stay) same ∙ p.same_home ∙ sym (same_home h vm g);
      select = ap (λ (r : VcpuRecord). r.select) same ∙ p.select ∙ sym (select_is (made_line vm) h g);
      majors = ap (λ (r : VcpuRecord). majors_shown r.majors) same ∙ p.majors ∙ sym (majors_is (made_line vm) h g);
      two_files = subst AreApart (sym (same_home h vm g)) p.two_files;
      plan = subst (λ (r : VcpuRecord). PlanStands y.world g r.stay) (sym same) (plan_grown x y h vm g (record_of x g).stay c low p.plan);
      passes = subst (λ (r : VcpuRecord). HasItsPasses (passes_of (made_line vm ∷ h)) g r.stay) (sym same)
          (subst (λ passes. HasItsPasses passes g (record_of x g).stay) (sym (none_by_vm h vm)) p.passes);
      holds = subst IsHeld (λ k. record {
        words = file_words h;
        slot = sym slot k;
        hart = sym hart k;
        reach = sym (reach_step (made_line vm) h g) k;
        shows = (sym shows ∙ (λ j. places_of y.world g (sym (same_home h vm g) j))) k;
        there = sym (same_home h vm g) k;
        hand = hand_in (sym same k).stay;
        file = sym (same_file h vm g) k;
        saw = sym (same_seen h vm g) k;
      }) p.holds;
    }

-- ---- a new one

nat_lt_zero : (n : ℕ) → nat_lt n 0 ≡ false
nat_lt_zero n = grind (arith, nat_tests)

never : (n : ℕ) → nat_eq 0 (n + 1) ≡ false
never n = grind (arith, nat_tests)

-- a parked virtual hart's entry in force leads to memory
nowhere : (h : History) (g : Vcpu) → home h g ≡ InMemory Parked → in_force_of h g ≡ None
nowhere h g parked = in_memory (in_force_of h g) (subst (λ t. MayReach t (in_force_of h g)) parked (in_force_may h g))
  where
    in_memory : (reach : Option GuestPlace) → MayReach (InMemory Parked) reach → reach ≡ None
    in_memory reach (inl m) = m.0
    in_memory reach (inr m) = absurd (cc)

-- a slot that is empty holds the file of a virtual hart that was asked for nothing
empty_holds : (words q hart n : ℕ) (v : Places) (saw : Bool) → v.own ≡ empty_file n → v.next ≡ empty_file n → ((i : ℕ) → v.slot.pending i ≡ false)
    → ((i : ℕ) → v.slot.enabled i ≡ false)
    → v.word0 ≡ entry_word q None → v.word1 ≡ second_word q hart → v.in_force ≡ leads_to q hart None → v.stage ≡ None → v.stage_in_force ≡ None
    → Holds words q hart None v (InMemory Parked) (hand_in (stays.InMemory Parked no_kept)) (empty_file n) saw
empty_holds words q hart n v saw own next pending enabled word0 word1 in_force stage stage_in_force = record {
  sets = record {
    union = λ i l. sym (ap (λ b. b || false) (pending i));
    drained = λ i l. refl;
    fresh = λ e i l. refl;
    old_enables = λ i l. enabled i;
    carried_enables = λ i l. refl;
    new_enables = λ i l. refl;
    spare = λ i l. (refl, refl);
    past = λ i past. (
      ap (λ (f : InterruptFile). f.pending i) own,
      ap (λ (f : InterruptFile). f.enabled i) own,
      ap (λ (f : InterruptFile). f.pending i) next,
      ap (λ (f : InterruptFile). f.enabled i) next,
      enabled i,
    );
  };
  numbers = record {
    own_delivery = ap (λ (f : InterruptFile). f.delivery) own;
    next_delivery = ap (λ (f : InterruptFile). f.delivery) next;
    kept_delivery = λ e. refl;
    own_threshold = ap (λ (f : InterruptFile). f.threshold) own;
    next_threshold = ap (λ (f : InterruptFile). f.threshold) next;
    kept_threshold = λ e. refl;
  };
  routes = record { word0 = word0; word1 = word1; in_force = in_force; may = inl (refl, refl); stage = stage; stage_in_force = stage_in_force };
  looks = refl;
}

new_stands : (x y : CoreState) (h : History) (vm : Vm) (g : Vcpu) → HasMade x y h vm → g.vm ≡ length (vms_of h) → g.vcpu < vm.vcpus
    → has_vcpu h g ≡ false → VcpuStands y (made_line vm ∷ h) g
new_stands x y h vm g c last low lacks =
    let none = c.stands.no_vcpu g lacks in
    let few : vcpus_in (vms_of h) + g.vcpu < VCPUS = let most = c.few in omega (arith, most, low) in
    let slot : slot_of (vms_of h ++ vm ∷ []) g ≡ vcpus_in (vms_of h) + g.vcpu = ap (λ v. slot_of (vms_of h ++ vm ∷ []) (vcpu_of v g.vcpu)) last
    ∙ slot_new (vms_of h) vm g.vcpu in
    let hart : notice_hart (vms_of h ++ vm ∷ []) g ≡ vm.notice_hart =
    ap (λ (v : Vm). v.notice_hart) (ap (vm_in (vms_of h ++ vm ∷ [])) last ∙ vm_new (vms_of h) vm) in
    let at : slot_of y.world.vms g ≡ vcpus_in (vms_of h) + g.vcpu = ap (λ vs. slot_of vs g) (new_vms x y h vm c) ∙ slot in
    let empty = c.stands.no_slot (vcpus_in (vms_of h) + g.vcpu) (omega arith) few in
    let table = tables_as_vms x y h vm c in
    let place : entry_word_place g.vm g.vcpu ≡ entry_word_place (length x.world.tables) g.vcpu =
    ap (λ v. entry_word_place v g.vcpu) (last ∙ sym table) in
    let before : vcpus_in x.world.vms ≡ vcpus_in (vms_of h) = ap vcpus_in c.stands.vms in
    let parked : home (made_line vm ∷ h) g ≡ InMemory Parked = same_home h vm g ∙ none.2 in
    let kept : record_of y g ≡ no_record = (λ k. get_or (c.vcpus k) (at k) no_record)
    ∙ past_all x.vcpus vm.vcpus (vcpus_in (vms_of h) + g.vcpu) (omega (arith, c.stands.records)) in
    let stage : stage_of y.world g ≡ no_stage = (λ k. get_or ((c.makes.rest k).stages) (at k) no_stage) ∙ empty.2 in
    let file : guest_file (made_line vm ∷ h) g ≡ empty_file y.world.n = same_file h vm g ∙ none.0
    ∙ ap empty_file (sym (ap (λ (w : World). w.n) c.makes.rest ∙ c.stands.greatest)) in
    record {
      same_home = ap (λ (r : VcpuRecord). home_in r.stay) kept ∙ sym parked;
      select = ap (λ (r : VcpuRecord). r.select) kept ∙ sym (select_is (made_line vm) h g ∙ none.1);
      majors = ap (λ (r : VcpuRecord). majors_shown r.majors) kept ∙ shown_at_first ∙ sym (majors_is (made_line vm) h g ∙ none.3);
      two_files = subst AreApart (sym parked) tt;
      plan = subst (λ (r : VcpuRecord). PlanStands y.world g r.stay) (sym kept) tt;
      passes = subst (λ (r : VcpuRecord). HasItsPasses (passes_of (made_line vm ∷ h)) g r.stay) (sym kept) tt;
      holds = subst IsHeld (λ k. record {
        words = file_words h;
        slot = sym slot k;
        hart = sym hart k;
        reach = sym (nowhere (made_line vm ∷ h) g parked) k;
        shows = places_of y.world g (sym parked k);
        there = sym parked k;
        hand = hand_in (sym kept k).stay;
        file = sym file k;
        saw = a_look_saw (made_line vm ∷ h) g;
      }) (empty_holds (file_words h) (vcpus_in (vms_of h) + g.vcpu) vm.notice_hart y.world.n (places_of y.world g (InMemory Parked))
          (a_look_saw (made_line vm ∷ h) g) refl refl
          (λ i. ap (λ q. (mrif_in y.world.memory q).pending i) at
          ∙ pending_stays x.world y.world vm c.makes (vcpus_in (vms_of h) + g.vcpu) i few ∙ empty.0 i)
          (λ i. ap (λ q. (mrif_in y.world.memory q).enabled i) at
          ∙ enabled_stays x.world y.world vm c.makes (vcpus_in (vms_of h) + g.vcpu) i few ∙ empty.1 i)
          (ap (λ p. get_or y.world.memory p 0) place ∙ c.makes.word0 g.vcpu low ∙ ap (λ q. mrif_word (slot_address (q + g.vcpu))) before)
          (ap (λ p. get_or y.world.memory (p + 1) 0) place ∙ c.makes.word1 g.vcpu low
          ∙ ap (λ q. notice_word (notice_page vm) (q + g.vcpu + 1)) before)
          (ap (λ v. entry_in_force (table_of y.world.tables v) g.vcpu) (last ∙ sym table) ∙ c.makes.in_force g.vcpu
          ∙ cond-true _ _ _ (lt-ltb g.vcpu vm.vcpus low)
          ∙ ap (λ q. entries.Mrif (slot_address (q + g.vcpu)) (notice_page vm) (q + g.vcpu + 1)) before)
          (ap (λ (s : Stage). s.written) stage) (ap (λ (s : Stage). s.in_force) stage));
    }
  where
    past_all : (first : List VcpuRecord) (n k : ℕ) → length first ≤ k → get_or (first ++ replicate n no_record) k no_record ≡ no_record
    past_all [] n k past = no_record_at n k
    past_all (r ∷ rs) n zero past = absurd (omega (arith, past))
    past_all (r ∷ rs) n (suc k) past = past_all rs n k (omega (arith, past))

-- ---- all of it

-- who holds a file holds it still, and the new ones hold none
held_grown : (x y : CoreState) (h : History) (vm : Vm) (p : GuestPlace) → HasMade x y h vm → is_held (made_line vm ∷ h) p ≡ is_held h p
held_grown x y h vm p c = elim (cases_Bool (is_held h p)) [
  | inl t ↦
      let who = some_vcpu (vms_of h) (λ g. holds p (home h g)) t in
      any_vcpu (vms_of h ++ vm ∷ []) (λ g. holds p (home (made_line vm ∷ h) g)) who.0 (there_still who.0 who.1)
      (ap (holds p) (same_home h vm who.0) ∙ who.2) ∙ sym t
  | inr f ↦ no_vcpu (vms_of h ++ vm ∷ []) (λ g. holds p (home (made_line vm ∷ h) g))
      (λ g inside. ap (holds p) (same_home h vm g) ∙ by_age g (cases_Bool (has_vcpu h g)) f) ∙ sym f
]
  where
    there_still : (g : Vcpu) → has_vcpu h g ≡ true → is_vcpu_in (vms_of h ++ vm ∷ []) g ≡ true
    there_still g there = ap (λ (v : Vm). nat_lt g.vcpu v.vcpus) (vm_stays (vms_of h) vm g.vm (vm_within (vms_of h) g there)) ∙ there

    by_age : (g : Vcpu) → (has_vcpu h g ≡ true) ⊎ (has_vcpu h g ≡ false) → is_held h p ≡ false → holds p (home h g) ≡ false
    by_age g (inl there) none = of_none (vms_of h) (λ g. holds p (home h g)) g none there
    by_age g (inr lacks) none = ap (holds p) (c.stands.no_vcpu g lacks).2

made_becomes : (x y : CoreState) (h : History) (vm : Vm) → HasMade x y h vm → Becomes x y h (made_line vm)
made_becomes x y h vm c =
    let imsic : y.world.imsic ≡ x.world.imsic = ap (λ (w : World). w.imsic) c.makes.rest in
    let table = tables_as_vms x y h vm c in
    record {
      keeps = keeps_by x y h (made_line vm) refl (built_as x.world y.world x.world.imsic.files y.world.memory y.world.vms y.world.tables
          y.world.flights x.world.stages x.world.notices c.makes.rest);
      vms = new_vms x y h vm c;
      count = ap (λ (w : World). w.notices) c.makes.rest;
      host = λ f inside. record {
        file = rw (imsic) (as_it_was (shown (file_at x.world.imsic (host_spot f))));
        select = ap (λ xs. get_or xs (select_place f) 0) c.selects;
      };
      records = ap (λ (rs : List VcpuRecord). length rs) c.vcpus ∙ length-append x.vcpus (replicate vm.vcpus no_record)
          ∙ (λ k. c.stands.records k + length-replicate vm.vcpus (no_record {P = PlanState}) k) ∙ sym (vcpus_more (vms_of h) vm);
      vcpus = λ g inside. by_age g (old_or_new (vms_of h) vm g inside);
      lease_harts = ap (λ (l : Leases). l.harts) c.leases;
      lease_guests = ap (λ (l : Leases). l.guests) c.leases;
      lease_count = ap (λ (l : Leases). length l.out) c.leases;
      leases = λ p inside. ap (λ l. is_out l p) c.leases ∙ c.stands.leases p inside ∙ sym (held_grown x y h vm p c);
      held = λ g p inside holding. c.stands.held g p (was_there g p (still_held g p holding)) (still_held g p holding);
      apart = λ a b p ia ib ha hb. c.stands.apart a b p (was_there a p (still_held a p ha)) (was_there b p (still_held b p hb))
          (still_held a p ha) (still_held b p hb);
      free = λ p inside none. ap (λ (i : ImsicState). shown (file_at i (spot_of p))) imsic
          ∙ c.stands.free p inside (sym (held_grown x y h vm p c) ∙ none);
      no_vcpu = λ g outside. (not_there_before (vms_of h) vm g outside, refl, same_home h vm g, λ m. refl);
      no_entry = λ g inside outside. no_entry_past g (ltb-true g.vm _ inside) outside table;
      no_slot = λ q past few.
          let before : vcpus_in (vms_of h) ≤ q = let more = vcpus_more (vms_of h) vm in omega (arith, past, more) in (
            before,
            λ k. record {
              pending = λ i. pending_stays x.world y.world vm c.makes q i few k;
              enabled =
                  λ i. enabled_stays x.world y.world vm c.makes q i few k;
            },
            ap (λ (w : World). get_or w.stages q no_stage) c.makes.rest,
          );
    }
  where
    by_age : (g : Vcpu) → ((g.vm < length (vms_of h)) × (has_vcpu h g ≡ true)) ⊎ ((g.vm ≡ length (vms_of h)) × (g.vcpu < vm.vcpus))
        → VcpuStands y (made_line vm ∷ h) g
    by_age g (inl (low, there)) = old_stands x y h vm g c low there
    by_age g (inr (last, low)) = new_stands x y h vm g c last low
        (le-ltb g.vcpu (vm_in (vms_of h) g.vm).vcpus (let none = vm_past (vms_of h) g.vm (omega (arith, last)) in omega (arith, none)))

    still_held : (g : Vcpu) (p : GuestPlace) → holds p (home (made_line vm ∷ h) g) ≡ true → holds p (home h g) ≡ true
    still_held g p holding = ap (holds p) (sym (same_home h vm g)) ∙ holding

    was_there : (g : Vcpu) (p : GuestPlace) → holds p (home h g) ≡ true → has_vcpu h g ≡ true
    was_there g p holding = elim (cases_Bool (has_vcpu h g))
        [ inl t ↦ t | inr lacks ↦ absurd (false≢true (sym (ap (holds p) (c.stands.no_vcpu g lacks).2) ∙ holding)) ]

    no_entry_past : (g : Vcpu) → g.vm < length (vms_of h ++ vm ∷ []) → is_vcpu_in (vms_of h ++ vm ∷ []) g ≡ false
        → length x.world.tables ≡ length (vms_of h) → entry_in_force (table_of y.world.tables g.vm) g.vcpu ≡ entries.NotValid
    no_entry_past g low outside table = elim (cases_lt g.vm (length (vms_of h))) [
      | inl old ↦ ap (λ (t : TableState). entry_in_force t g.vcpu) (c.makes.others g.vm (omega (arith, old, table)))
          ∙ c.stands.no_entry g (lt-ltb g.vm (length (vms_of h)) old) (not_there_before (vms_of h) vm g outside)
      | inr past ↦
          let last : g.vm ≡ length (vms_of h) = omega (arith, past, low, length-append (vms_of h) (vm ∷ [])) in
          ap (λ v. entry_in_force (table_of y.world.tables v) g.vcpu) (last ∙ sym table) ∙ c.makes.in_force g.vcpu
          ∙ cond-false _ _ _ (ap (λ (v : Vm). nat_lt g.vcpu v.vcpus)
          (sym (ap (vm_in (vms_of h ++ vm ∷ [])) last ∙ vm_new (vms_of h) vm)) ∙ outside)
    ]

-- no store of the new VM is in flight
none_more : (flights : List (List Flying)) (v : ℕ) → get_or (flights ++ [] ∷ []) v [] ≡ get_or flights v []
none_more [] zero = refl
none_more [] (suc v) = refl
none_more (f ∷ flights) zero = refl
none_more (f ∷ flights) (suc v) = none_more flights v

none_sent : (h : History) (vm : Vm) (v : ℕ) → flight (made_line vm ∷ h) v ≡ flight h v
unfolding flight
none_sent h vm v = refl

pub made_stands : (x y : CoreState) (h : History) (vm : Vm) → HasMade x y h vm → CoreStands y (made_line vm ∷ h)
made_stands x y h vm c = stands_after x y h (made_line vm) (made_becomes x y h vm c) (record {
  first = tt;
  one = tt;
  flights = λ v. ap (λ flights. get_or flights v []) c.makes.flights ∙ none_more x.world.flights v ∙ c.stands.flights v
      ∙ ap (map (flying_of v)) (sym (none_sent h vm v));
}) (none_passes x y h (made_line vm) (none_by_vm h vm) tt c.passes c.stands) c.stands

-- ---- what it is answered

-- whether its numbers are a VM's, by the count of the mask's ones
pub size_by_ones : (vcpus mask : ℕ) → mask < 2 ^ 64 → is_mask mask ≡ true
    → is_in_range 1 (1 * 2 ^ count_ones mask % 2 ^ 64) vcpus ≡ is_vm_size vcpus mask
size_by_ones vcpus mask low is =
    let few : ones 64 mask ≤ MASK_ONES = (mask_parts mask is).1 in
    let count = ones_counted mask low in
    let whole : 1 * 2 ^ count_ones mask % 2 ^ 64 ≡ 2 ^ ones 64 mask = ap (λ n. 1 * 2 ^ n % 2 ^ 64) count
    ∙ one_bit (ones 64 mask) (omega (arith, few)) in
    ap (λ n. is_in_range 1 n vcpus) whole ∙ ap (λ b. b && is_in_range 1 (2 ^ ones 64 mask) vcpus) (sym is)

pub vm_made : (x y : CoreState) (vcpus mask hart : ℕ) → IsWhole x.world → is_vm_size vcpus mask ≡ true → hart < x.world.imsic.harts
    → lacks_room x.world.vms vcpus ≡ false → MakesVm x.world y.world (record { vcpus = vcpus; mask = mask; notice_hart = hart })
    → y.leases ≡ x.leases → y.vcpus ≡ x.vcpus ++ replicate vcpus no_record → y.selects ≡ x.selects → y.passes ≡ x.passes
    → CoreTakes x y (lines.Vm vcpus mask hart) Okay
vm_made x y vcpus mask hart whole size there room makes leases vcpu_records selects passes =
    taken x y (lines.Vm vcpus mask hart) Okay refl (λ h stands.
    let free : lacks_room (vms_of h) vcpus ≡ false = subst (λ (vs : List Vm). lacks_room vs vcpus ≡ false) stands.vms room in (
      vm_refusal h vcpus mask hart stands.there ∙ cond-false _ _ _
          (ap not (ap (λ b. b && has_hart h hart) size ∙ lt-ltb hart (harts_of h) (omega (arith, there, stands.harts)))) ∙ cond-false _ _ _ free,
      refl,
      made_stands x y h (record { vcpus = vcpus; mask = mask; notice_hart = hart })
          (record {
            stands = stands;
            whole = whole;
            makes = makes;
            leases = leases;
            vcpus = vcpu_records;
            selects = selects;
            passes = passes;
            few = few_left h vcpus free;
          }),
    ))
  where
    few_left : (h : History) (vcpus : ℕ) → lacks_room (vms_of h) vcpus ≡ false → vcpus_in (vms_of h) + vcpus ≤ VCPUS
    few_left h vcpus free = grind (arith, nat_tests)

-- there is room for their records, where the core stands for some history
pub room_left : (x : CoreState) (vcpus room : ℕ) → StandsForSome x → VCPUS ≤ room → lacks_room x.world.vms vcpus ≡ false
    → length x.vcpus + vcpus ≤ room
room_left x vcpus room some low free =
    let sum : vcpus_in x.world.vms + vcpus ≤ VCPUS = grind (arith, nat_tests) in
    let records = some.stands.records in
    omega (arith, sum, low, records, ap vcpus_in some.stands.vms)

pub vm_refused : (x : CoreState) (vcpus mask hart : ℕ) → (is_vm_size vcpus mask && nat_lt hart x.world.imsic.harts) ≡ false
    → CoreTakes x x (lines.Vm vcpus mask hart) (Refused words.Range)
vm_refused x vcpus mask hart outside = refused x (lines.Vm vcpus mask hart) (Refused words.Range) (λ h stands.
    vm_refusal h vcpus mask hart stands.there ∙ cond-true _ _ _
    (ap not (ap (λ k. is_vm_size vcpus mask && nat_lt hart k) (sym stands.harts) ∙ outside)))

pub vm_has_no_room : (x : CoreState) (vcpus mask hart : ℕ) → is_vm_size vcpus mask ≡ true → hart < x.world.imsic.harts
    → lacks_room x.world.vms vcpus ≡ true → CoreTakes x x (lines.Vm vcpus mask hart) (Refused words.Full)
vm_has_no_room x vcpus mask hart size there lacks = refused x (lines.Vm vcpus mask hart) (Refused words.Full) (λ h stands.
    vm_refusal h vcpus mask hart stands.there ∙ cond-false _ _ _
    (ap not (ap (λ b. b && has_hart h hart) size ∙ lt-ltb hart (harts_of h) (omega (arith, there, stands.harts))))
    ∙ cond-true _ _ _ (subst (λ (vs : List Vm). lacks_room vs vcpus ≡ true) stands.vms lacks))
