-- What the making of a VM leaves: the places of each virtual hart that was there, and all ways by
-- which stores come, but those of the new ones, which lead to slots of their own.
use Rattle.std.proofs.Common.{◌≡◌, ℕ, zero, suc, ◌+◌, ◌/◌, ◌%◌, ◌<◌, ◌≤◌, true, false, ◌&&◌, nat_lt, nat_le, List, [], ◌∷◌, ◌++◌, length, get_or, Option, Some, None, ◌⊎◌, inl, inr, refl, sym, ap, ◌∙◌, subst, arith}
use Rattle.std.specs.Prelude.{slice_get, slice_index_or}
use Rattle.std.specs.Option.{option_map}
use Rattle.std.proofs.Math.ListN.{get_or-append}
use Rattle.std.proofs.lemmas.Bool.{cases_Bool, cases_eq, cases_lt, cond-true, cond-false, lt-ltb}
use Rattle.std.proofs.lemmas.Bool.Decides.{nat_tests}
use Rattle.std.proofs.lemmas.List.{get_or_past}
use Rattle.aia_word.specs.Sets.{has_bit}
use Rattle.aia_regs.specs.declared.limits.TheConstants.{HARTS, SLOTS, FILE_WORDS, IDENTITIES, ENTRIES}
use Rattle.aia_regs.specs.AddressMap.{slot_address}
use Rattle.aia_file.specs.Imsic.{ImsicState, IsThere}
use Rattle.aia_file.specs.Mrif.{mrif_in, set_at, pending_place, enable_place}
use Rattle.aia_entry.specs.declared.entry.Entry.{Entry}
use Rattle.aia_entry.specs.declared.entry.Entry.TheVariants.{Basic, Mrif, NotValid, Custom, Misconfigured}
use Rattle.aia_entry.specs.Format.{decoded}
use Rattle.aia_entry.specs.Tables.{TableState, no_table, table_of, entry_in_force}
use Rattle.aia_vcpu.specs.declared.place.GuestPlace.{GuestPlace}
use Rattle.aia_vcpu.specs.declared.access.Access.TheVariants.{TakePending, TakeEnables}
use Rattle.aia_vcpu.specs.declared.vm.Vm.{Vm}
use Rattle.aia_vcpu.specs.Vms.{Vcpu, vcpu_of, is_vcpu_in, vm_in, vcpus_in, slot_of, notice_hart}
use Rattle.aia_vcpu.specs.Home.{Home}
use Rattle.aia_vcpu.specs.BySteps.{own_file, next_file}
use Rattle.aia_vcpu.specs.Plans.{is_last_made}
use Rattle.aia_vcpu.proofs.VmLemmas.{vm_stays, slot_stays, vm_new, slot_new, old_or_new}
use Rattle.aia_vcpu_places.specs.Places.{leads_to, entry_word, second_word}
use Rattle.aia_vcpu_places.proofs.EntryLemmas.{entry_back}
use Rattle.aia_fabric_values.specs.declared.at.At.{At}
use Rattle.aia_fabric_values.specs.declared.at.At.TheVariants.{Slot}
use Rattle.aia_fabric_values.specs.declared.flying.Flying.{Flying}
use Rattle.aia_fabric_values.specs.declared.stage.Stage.{Stage}
use Rattle.aia_fabric_values.specs.World.{World, no_stage, flight_of, stage_of}
use Rattle.aia_fabric_values.specs.Whole.{IsWhole}
use Rattle.aia_fabric_values.specs.Making.{MakesVm, made_entry, notice_page, entry_word_place}
use Rattle.aia_fabric_values.specs.Changes.{spot_of, file_in}
use Rattle.aia_fabric_values.proofs.PlaceLemmas.{slot_found}
use Rattle.aia_fabric_values.proofs.WholeLemmas.{vcpu_entry, notice_hart_there}
use Rattle.aia_move_values.specs.Views.{places_of}
use Rattle.aia_move_values.specs.Move.{Moving, mover, MoveFits}
use Rattle.aia_move_values.specs.Ways.{led_by_entry, led_by_record, entry_of, written_of}
use Rattle.aia_move_values.specs.WorldChanges.{OthersNameNothing}
use Rattle.aia_move_values.proofs.ViewLemmas.{slot_low}

-- ---- slots, whose words stay

-- a set is what its words are
same_words : (place : ℕ → ℕ) (old new : List ℕ) → ((k : ℕ) → k < FILE_WORDS → get_or new (place k) 0 ≡ get_or old (place k) 0) → (i : ℕ)
    → set_at place new i ≡ set_at place old i
same_words place old new same i = elim (cases_Bool (nat_le i IDENTITIES)) [
  | inl e ↦ let low : i ≤ IDENTITIES = grind (arith, nat_tests) in
      ap (λ w. nat_le i IDENTITIES && has_bit w (i % 64)) (same (i / 64) (omega (arith, low)))
  | inr e ↦ ap (λ b. b && has_bit (get_or new (place (i / 64)) 0) (i % 64)) e
      ∙ sym (ap (λ b. b && has_bit (get_or old (place (i / 64)) 0) (i % 64)) e)
]

module _ (w u : World) (vm : Vm) (made : MakesVm w u vm) where
  pub pending_stays : (q i : ℕ) → q < SLOTS → (mrif_in u.memory q).pending i ≡ (mrif_in w.memory q).pending i
  pending_stays q i few = same_words (pending_place q) w.memory u.memory
      (λ k low. made.elsewhere (pending_place q k) (inl (omega (arith, few, low)))) i

  pub enabled_stays : (q i : ℕ) → q < SLOTS → (mrif_in u.memory q).enabled i ≡ (mrif_in w.memory q).enabled i
  enabled_stays q i few = same_words (enable_place q) w.memory u.memory
      (λ k low. made.elsewhere (enable_place q k) (inl (omega (arith, few, low)))) i

-- ---- a virtual hart that was there

module _ (w u : World) (vm : Vm) (whole : IsWhole w) (made : MakesVm w u vm) (g : Vcpu) (there : is_vcpu_in w.vms g ≡ true) where
  stood : g.vm < length w.vms
  stood = (vcpu_entry w g.vm g.vcpu whole there).0

  with_table : g.vm < length w.tables
  with_table = omega (arith, stood, whole.tables)

  number : g.vcpu < ENTRIES
  number = (vcpu_entry w g.vm g.vcpu whole there).2

  pub slot_made : slot_of u.vms g ≡ slot_of w.vms g
  slot_made = ap (λ vms. slot_of vms g) made.vms ∙ slot_stays w.vms vm g stood

  same_files : u.imsic ≡ w.imsic
  same_files = ap (λ (x : World). x.imsic) made.rest

  pub first_word : get_or u.memory (entry_word_place g.vm g.vcpu) 0 ≡ get_or w.memory (entry_word_place g.vm g.vcpu) 0
  first_word = made.elsewhere (entry_word_place g.vm g.vcpu) (inl (omega (arith, with_table, number)))

  pub later_word : get_or u.memory (entry_word_place g.vm g.vcpu + 1) 0 ≡ get_or w.memory (entry_word_place g.vm g.vcpu + 1) 0
  later_word = made.elsewhere (entry_word_place g.vm g.vcpu + 1) (inl (omega (arith, with_table, number)))

  pub entry_made : entry_of u g ≡ entry_of w g
  entry_made = ap (λ (t : TableState). entry_in_force t g.vcpu) (made.others g.vm with_table)

  pub stage_made : stage_of u g ≡ stage_of w g
  stage_made = (λ k. slice_index_or ((made.rest k).stages) (slot_made k) no_stage)

  pub places_made : (home : Home) → places_of u g home ≡ places_of w g home
  places_made home =
      let few = slot_low w g whole there in
      let slot : mrif_in u.memory (slot_of u.vms g) ≡ mrif_in w.memory (slot_of w.vms g) =
      ap (λ q. mrif_in u.memory q) slot_made
      ∙ (λ k. record {
        pending = λ i. pending_stays w u vm made (slot_of w.vms g) i few k;
        enabled = λ i. enabled_stays w u vm made (slot_of w.vms g) i few k;
      }) in
      let file : (o : Option GuestPlace) → file_in u o ≡ file_in w o = λ o. ap (λ (x : World). file_in x o) made.rest ∙ kept o in
      λ k. record {
        own = file (own_file home) k;
        next = file (next_file home) k;
        slot = slot k;
        word0 = first_word k;
        word1 = later_word k;
        in_force = entry_made k;
        stage = (stage_made k).written;
        stage_in_force = (stage_made k).in_force;
      }
    where
      kept : (o : Option GuestPlace) → file_in (record w { vms = u.vms; tables = u.tables; flights = u.flights; memory = u.memory }) o ≡ file_in w o
      kept None = refl
      kept (Some p) = refl

  pub there_made : is_vcpu_in u.vms g ≡ true
  there_made = ap (λ vms. is_vcpu_in vms g) made.vms ∙ ap (λ (v : Vm). nat_lt g.vcpu v.vcpus) (vm_stays w.vms vm g.vm stood) ∙ there

  pub notice_made : notice_hart u.vms g ≡ notice_hart w.vms g
  notice_made = ap (λ vms. notice_hart vms g) made.vms ∙ ap (λ (v : Vm). v.notice_hart) (vm_stays w.vms vm g.vm stood)

-- a move of it can go on
pub fits_made : (w u : World) (vm : Vm) (m : Moving) → IsWhole w → MakesVm w u vm → MoveFits w m → MoveFits u m
fits_made w u vm m whole made fits =
    let files : u.imsic ≡ w.imsic = ap (λ (x : World). x.imsic) made.rest in
    record {
      there = there_made w u vm whole made (mover m) fits.there;
      slot = fits.slot ∙ sym (slot_made w u vm whole made (mover m) fits.there);
      notice = fits.notice ∙ sym (notice_made w u vm whole made (mover m) fits.there);
      own = λ p e. subst (λ (i : ImsicState). IsThere i (spot_of p)) (sym files) (fits.own p e);
      next = λ p e. subst (λ (i : ImsicState). IsThere i (spot_of p)) (sym files) (fits.next p e);
      no_pending_zero = λ e. fits.no_pending_zero (sym (ap (λ (x : World). is_last_made ((x.n + 1) / 64) m.home (TakePending 0)) made.rest) ∙ e);
      no_enabled_zero = λ e. fits.no_enabled_zero (sym (ap (λ (x : World). is_last_made ((x.n + 1) / 64) m.home (TakeEnables 0)) made.rest) ∙ e);
    }

-- ---- ways

-- a way leads where it led before, or to a slot that was none's, or nowhere
pub data Since (w : World) (before now : Option At) : Type 0 where
  AsBefore : now ≡ before → Since w before now
  ToNewSlot : (q : ℕ) → vcpus_in w.vms ≤ q → now ≡ Some (Slot q) → Since w before now
  Nowhere : now ≡ None → Since w before now

module _ (w u : World) (vm : Vm) (whole : IsWhole w) (after : IsWhole u) (made : MakesVm w u vm)
    (unnamed : OthersNameNothing w) where
  pub led_made : (e : Entry) → led_by_entry u e ≡ led_by_entry w e
  led_made (Basic page) = ap (λ (x : World). led_by_entry x (Basic page)) made.rest
  led_made (Mrif addr page identity) = refl
  led_made NotValid = refl
  led_made Custom = refl
  led_made Misconfigured = refl

  pub recorded_made : (g : Vcpu) → is_vcpu_in w.vms g ≡ true → (place : Option GuestPlace) → led_by_record u g place ≡ led_by_record w g place
  recorded_made g there None = ap (λ q. Some (Slot q)) (slot_made w u vm whole made g there)
  recorded_made g there (Some p) = ap (λ (x : World). led_by_record x g (Some p)) made.rest

  -- one of the new ones
  module _ (g : Vcpu) (of_new : g.vm ≡ length w.vms) (low : g.vcpu < vm.vcpus) where
    there_now : is_vcpu_in u.vms g ≡ true
    there_now = ap (λ vms. is_vcpu_in vms g) made.vms ∙ ap (λ v. nat_lt g.vcpu (vm_in (w.vms ++ vm ∷ []) v).vcpus) of_new
        ∙ ap (λ (v : Vm). nat_lt g.vcpu v.vcpus) (vm_new w.vms vm) ∙ lt-ltb g.vcpu vm.vcpus low

    new_slot : slot_of u.vms g ≡ vcpus_in w.vms + g.vcpu
    new_slot = ap (λ vms. slot_of vms g) made.vms ∙ ap (λ v. slot_of (w.vms ++ vm ∷ []) (vcpu_of v g.vcpu)) of_new ∙ slot_new w.vms vm g.vcpu

    few : vcpus_in w.vms + g.vcpu < SLOTS
    few = let small = slot_low u g after there_now in omega (arith, small, new_slot)

    new_hart : vm.notice_hart < HARTS
    new_hart =
        let small = notice_hart_there u g after there_now in
        let same : notice_hart u.vms g ≡ vm.notice_hart = ap (λ vms. notice_hart vms g) made.vms
        ∙ ap (λ v. (vm_in (w.vms ++ vm ∷ []) v).notice_hart) of_new ∙ ap (λ (v : Vm). v.notice_hart) (vm_new w.vms vm) in
        omega (arith, small, same, after.harts)

    no_stage_yet : stage_of u g ≡ no_stage
    no_stage_yet = (λ k. slice_index_or ((made.rest k).stages) (new_slot k) no_stage) ∙ unnamed (vcpus_in w.vms + g.vcpu) (omega arith)

    pub named_new : (place : Option GuestPlace) → place ≡ None → led_by_record u g place ≡ Some (Slot (vcpus_in w.vms + g.vcpu))
    named_new place none = ap (led_by_record u g) none ∙ ap (λ q. Some (Slot q)) new_slot

    pub written_new : led_by_entry u (written_of u g) ≡ Some (Slot (vcpus_in w.vms + g.vcpu))
    written_new =
        let q : ℕ = vcpus_in w.vms + g.vcpu in
        let place : entry_word_place g.vm g.vcpu ≡ entry_word_place (length w.tables) g.vcpu =
        ap (λ v. entry_word_place v g.vcpu) (of_new ∙ sym whole.tables) in
        let first : get_or u.memory (entry_word_place g.vm g.vcpu) 0 ≡ entry_word q None = ap (λ p. get_or u.memory p 0) place
        ∙ made.word0 g.vcpu low in
        let later : get_or u.memory (entry_word_place g.vm g.vcpu + 1) 0 ≡ second_word q vm.notice_hart =
        ap (λ p. get_or u.memory (p + 1) 0) place ∙ made.word1 g.vcpu low in
        let says : written_of u g ≡ leads_to q vm.notice_hart None =
        ap (λ x. decoded x (get_or u.memory (entry_word_place g.vm g.vcpu + 1) 0)) first ∙ ap (λ x. decoded (entry_word q None) x) later
        ∙ entry_back q vm.notice_hart None few new_hart (λ p e. absurd (cc)) in
        ap (led_by_entry u) says ∙ ap (option_map Slot) (slot_found q few)

  pub entries_since : (g : Vcpu) → Since w (led_by_entry w (entry_of w g)) (led_by_entry u (entry_of u g))
  entries_since g = elim (cases_lt g.vm (length w.tables)) [
    | inl low ↦ AsBefore (led_made (entry_of u g) ∙ ap (led_by_entry w)
        (ap (λ (t : TableState). entry_in_force t g.vcpu) (made.others g.vm low)))
    | inr past ↦ elim (cases_eq g.vm (length w.tables)) [
      | inl e ↦ of_new (ap (λ v. entry_in_force (table_of u.tables v) g.vcpu) e ∙ made.in_force g.vcpu) e
      | inr ne ↦ Nowhere (ap (λ (t : TableState). led_by_entry u (entry_in_force t g.vcpu))
          (get_or_past u.tables g.vm no_table (omega (arith, past, ne, made.count))))
    ]
  ]
    where
      of_new : entry_of u g ≡ made_entry vm (vcpus_in w.vms) g.vcpu → g.vm ≡ length w.tables
          → Since w (led_by_entry w (entry_of w g)) (led_by_entry u (entry_of u g))
      of_new is e = elim (cases_lt g.vcpu vm.vcpus) [
        | inl low ↦
            let entry : entry_of u g ≡ Mrif (slot_address (vcpus_in w.vms + g.vcpu)) (notice_page vm) (vcpus_in w.vms + g.vcpu + 1) =
            is ∙ cond-true _ _ _ (lt-ltb g.vcpu vm.vcpus low) in
            ToNewSlot (vcpus_in w.vms + g.vcpu) (omega arith)
            (ap (led_by_entry u) entry ∙ ap (option_map Slot) (slot_found (vcpus_in w.vms + g.vcpu) (few g (e ∙ whole.tables) low)))
        | inr high ↦
            let none : nat_lt g.vcpu vm.vcpus ≡ false = grind (arith, nat_tests) in
            Nowhere (ap (led_by_entry u) (is ∙ cond-false _ _ _ none))
      ]

  pub written_since : (g : Vcpu) → is_vcpu_in u.vms g ≡ true
      → ((is_vcpu_in w.vms g ≡ true) × (led_by_entry u (written_of u g) ≡ led_by_entry w (written_of w g)))
      ⊎ (led_by_entry u (written_of u g) ≡ Some (Slot (vcpus_in w.vms + g.vcpu)))
  written_since g there = elim (old_or_new w.vms vm g (ap (λ vms. is_vcpu_in vms g) (sym made.vms) ∙ there)) [
    | inl old ↦ inl (
      old.1,
      led_made (written_of u g) ∙ ap (led_by_entry w)
          (λ k. decoded (first_word w u vm whole made g old.1 k) (later_word w u vm whole made g old.1 k)),
    )
    | inr new ↦ inr (written_new g new.0 new.1)
  ]

  -- a record, as it is in force and as it is written
  pub named_since : (named : Stage → Option GuestPlace) → named no_stage ≡ None → (g : Vcpu) → is_vcpu_in u.vms g ≡ true
      → ((is_vcpu_in w.vms g ≡ true) × (led_by_record u g (named (stage_of u g)) ≡ led_by_record w g (named (stage_of w g))))
      ⊎ (led_by_record u g (named (stage_of u g)) ≡ Some (Slot (vcpus_in w.vms + g.vcpu)))
  named_since named none g there = elim (old_or_new w.vms vm g (ap (λ vms. is_vcpu_in vms g) (sym made.vms) ∙ there)) [
    | inl old ↦ inl (
      old.1,
      recorded_made g old.1 (named (stage_of u g))
          ∙ ap (λ (s : Stage). led_by_record w g (named s)) (stage_made w u vm whole made g old.1),
    )
    | inr new ↦ inr (named_new g new.0 new.1 (named (stage_of u g)) (ap named (no_stage_yet g new.0 new.1) ∙ none))
  ]

  -- no store of the new VM's devices is in flight
  pub flight_since : (v k : ℕ) (s : Flying) → slice_get (flight_of u v) k ≡ Some s → slice_get (flight_of w v) k ≡ Some s
  flight_since v k s is = elim (cases_lt v (length w.flights)) [
    | inl low ↦ ap (λ xs. slice_get xs k) (sym (ap (λ fs. slice_index_or fs v []) made.flights ∙ get_or-append w.flights ([] ∷ []) [] v low)) ∙ is
    | inr past ↦
        let none : flight_of u v ≡ [] = ap (λ fs. slice_index_or fs v []) made.flights ∙ all_none w.flights v past in
        let no : None ≡ Some s = ap (λ xs. slice_get xs k) (sym none) ∙ is in absurd (cc)
  ]
    where
      all_none : (first : List (List Flying)) (v : ℕ) → length first ≤ v → slice_index_or (first ++ [] ∷ []) v [] ≡ []
      all_none [] zero past = refl
      all_none [] (suc v) past = refl
      all_none (x ∷ xs) zero past = absurd (omega (arith, past))
      all_none (x ∷ xs) (suc v) past = all_none xs v (omega (arith, past))
