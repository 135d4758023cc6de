-- A part of the image of a virtual hart that is parked is given, or loaded.
use Rattle.std.proofs.Common.{◌≡◌, ℕ, ◌+◌, ◌/◌, ◌%◌, ◌^◌, ◌<◌, ◌≤◌, Bool, true, false, not, ◌&&◌, cond, nat_eq, nat_lt, nat_le, get_or, List, length, set, ◌∷◌, Some, None, refl, sym, ap, subst, ◌∙◌, arith}
use Rattle.std.specs.Prelude.{Err}
use Rattle.std.proofs.Math.Nat.{mod-eq_of_lt}
use Rattle.std.proofs.lemmas.Bool.{cond-true, cond-false, and_parts}
use Rattle.std.proofs.lemmas.Bool.Decides.{nat_tests}
use Rattle.std.proofs.lemmas.List.{get_or-set_same, get_or-set_other, length-set}
use Rattle.aia_regs.specs.declared.limits.TheConstants.{VCPUS}
use Rattle.aia_regs.specs.declared.access.Op.TheVariants as ops
use Rattle.aia_regs.specs.FileRegisters.{select_written}
use Rattle.aia_regs.specs.Fields.{bit_number}
use Rattle.aia_file.specs.InterruptFile.{InterruptFile, SameFile, is_live}
use Rattle.aia_file.proofs.FileLemmas.{same_file}
use Rattle.aia_file.specs.declared.spot.Spot.TheVariants as spots
use Rattle.aia_major.specs.Kept.{majors_shown}
use Rattle.aia_vcpu.specs.Vms.{Vcpu, vcpu_of, is_vcpu_in, vcpus_in, slot_of, notice_hart, notice_identity}
use Rattle.aia_vcpu.specs.Home.{rests_in_memory}
use Rattle.aia_vcpu.specs.declared.rest.Rest.TheVariants.{Parked}
use Rattle.aia_vcpu.specs.Home.Home.{InMemory}
use Rattle.aia_fabric_values.specs.World.{World}
use Rattle.aia_fabric_values.specs.Whole.{IsWhole}
use Rattle.aia_fabric_values.specs.Stores.{LandsIn, Posts, counted}
use Rattle.aia_fabric_values.specs.SlotAccess.{file_of_slot, DoneInSlot}
use Rattle.aia_file.specs.Imsic.{ImsicState}
use Rattle.aia_move_values.specs.declared.who.KeptNumbers.{KeptNumbers}
use Rattle.aia_model.specs.declared.answer.Answer.TheVariants.{Okay, Refused}
use Rattle.aia_model.specs.declared.answer.Answer.TheVariants as kinds
use Rattle.aia_model.specs.declared.refusal.Refusal.{Refusal}
use Rattle.aia_model.specs.declared.refusal.Refusal.TheVariants as words
use Rattle.aia_model.specs.declared.line.Line.TheVariants.{Save, LoadPart}
use Rattle.aia_model.specs.declared.part.Part.{Part}
use Rattle.aia_model.specs.declared.part.Part.TheVariants as parts
use Rattle.aia_model.specs.Image.{part_of, parts_in, is_loadable, file_loaded, majors_loaded}
use Rattle.aia_model.specs.StateOf.{state_of}
use Rattle.aia_model.specs.Event.{History, Event, file_words, greatest_identity_of}
use Rattle.aia_model.specs.Event.Event.{Accepted}
use Rattle.aia_model.specs.Vms.{has_vcpu}
use Rattle.aia_model.specs.FileAfter.{file_after, select_after}
use Rattle.aia_model.specs.FileAfter.FileDeed.{Loads, Rests}
use Rattle.aia_model.specs.GuestFile.{guest_file}
use Rattle.aia_model.specs.HomeOf.{home}
use Rattle.aia_model.specs.Notice.{noticed}
use Rattle.aia_model.specs.Passes.{passes_of}
use Rattle.aia_model.proofs.RefusalLemmas.{unless_parked}
use Rattle.aia_model.proofs.AnswerLemmas.{save_refusal, load_part_refusal}
use Rattle.aia_model.proofs.MoveLemmas.{is_itself}
use Rattle.aia_hyp_values.specs.Core.{Stay}
use Rattle.aia_hyp_values.specs.declared.vcpu.Stay.TheVariants as stays
use Rattle.aia_hyp_values.specs.Core.{VcpuRecord}
use Rattle.aia_hyp_values.specs.Core.{CoreState, no_record, record_of, home_in, hand_in, parked_at}
use Rattle.aia_hyp_values.specs.Loads.{sets_loaded}
use Rattle.aia_hyp_values.specs.Images.{state_in}
use Rattle.aia_hyp_values.specs.Memory.{file_in_memory}
use Rattle.aia_hyp_values.specs.Passes.{HasItsPasses}
use Rattle.aia_fabric_values.specs.declared.found.Found.{Found}
use Rattle.aia_fabric_values.specs.Found.{IsFound}
use Rattle.aia_hyp_values.specs.Stands.{PlanStands, CoreStands, StandsForSome, CoreTakes}
use Rattle.aia_vcpu.proofs.VmLemmas.{slot_below}
use Rattle.aia_file.proofs.SizeLemmas.{few_identities}
use Rattle.aia_hyp_values.proofs.VcpuLemmas.{quiet_line}
use Rattle.aia_hyp_values.proofs.EventLemmas.{Changes, accepted, refused, hosts_line, nothing_done, as_it_was}
use Rattle.aia_hyp_values.proofs.FilesInMemory.{file_is}
use Rattle.aia_hyp_values.proofs.GuestAccesses.{there_in, missing_in}
use Rattle.aia_hyp_values.proofs.MajorLemmas.{IsOfMajors, HasMajors, majors_change}
use Rattle.aia_hyp_values.proofs.MemoryDeeds.{with_memory, but_memory, memory_deed}
use Rattle.aia_hyp_values.proofs.RestLemmas.{word_is}
use Rattle.aia_hyp_values.proofs.RunLines.{OnlyNotifies, nothing_told, one_told}
use Rattle.aia_model.proofs.GreatestLemmas.{guest_greatest}
use Rattle.aia_hyp_values.proofs.WithinLemmas.{guest_sound}

-- ---- a virtual hart that is parked

module _ (x : CoreState) (h : History) (g : Vcpu) (kept : KeptNumbers) (stands : CoreStands x h) (there : has_vcpu h g ≡ true)
    (at : (record_of x g).stay ≡ stays.InMemory Parked kept) where
  pub parked_home : home h g ≡ InMemory Parked
  parked_home = sym (stands.vcpus g there).same_home ∙ ap home_in at

  pub is_not_refused : unless_parked (home h g) None ≡ None
  is_not_refused = ap (λ t. unless_parked t None) parked_home

  pub its_file : IsWhole x.world → guest_file h g ≡ file_in_memory x.world (slot_of x.world.vms g) kept
  its_file whole = file_is x h g kept stands whole there (ap rests_in_memory parked_home) (ap hand_in at)

  pub its_state : IsWhole x.world → state_in x (slot_of x.world.vms g) kept ≡ state_of h g
  its_state whole = λ k. record { select = (stands.vcpus g there).select k; file = sym (its_file whole) k; majors = (stands.vcpus g there).majors k }

-- the numbers that are kept of it are small
pub small_threshold : (x : CoreState) (h : History) (g : Vcpu) (kept : KeptNumbers) → CoreStands x h → IsWhole x.world → has_vcpu h g ≡ true
    → (record_of x g).stay ≡ stays.InMemory Parked kept → kept.threshold ≤ x.world.n
small_threshold x h g kept stands whole there at =
    let file = its_file x h g kept stands there at whole in
    let sound = (guest_sound h g).threshold in
    omega (arith, sound, ap (λ (f : InterruptFile). f.threshold) file, guest_greatest h g, stands.greatest)

-- one that is not is refused by the word for where it is
pub not_parked : (x : CoreState) (h : History) (g : Vcpu) (stay : Stay) (word : Refusal) → CoreStands x h → has_vcpu h g ≡ true
    → (record_of x g).stay ≡ stay → parked_at stay ≡ Err word → unless_parked (home h g) None ≡ Some (Refused word)
not_parked x h g stay word stands there was e = ap (λ t. unless_parked t None) at
    ∙ word_is x.world g stay word None (subst (PlanStands x.world g) was (stands.vcpus g there).plan) e
  where
    at : home h g ≡ home_in stay
    at = sym (stands.vcpus g there).same_home ∙ ap home_in was

-- where it is found
pub found_below : (w : World) (found : Found) → IsFound w found → found.slot < vcpus_in w.vms
found_below w found is = let below = slot_below w.vms (vcpu_of found.vm found.vcpu) is.there in omega (arith, below, is.slot)

pub found_few : (w : World) (found : Found) → IsWhole w → IsFound w found → found.slot < VCPUS
found_few w found whole is = let below = found_below w found is in omega (arith, below, whole.vcpus)

pub found_stay : (x : CoreState) (found : Found) → IsFound x.world found → {A : Type 0} (r : A) (of : Stay → A)
    → r ≡ of (get_or x.vcpus found.slot no_record).stay → r ≡ of (record_of x (vcpu_of found.vm found.vcpu)).stay
found_stay x found is r of e = e ∙ ap (λ q. of (get_or x.vcpus q no_record).stay) is.slot

-- the threshold that is kept fits
pub small_number : (x : CoreState) (g : Vcpu) (kept : KeptNumbers) → StandsForSome x → IsWhole x.world → is_vcpu_in x.world.vms g ≡ true
    → (record_of x g).stay ≡ stays.InMemory Parked kept → kept.threshold < 2 ^ 32
small_number x g kept some whole inside at =
    let small = small_threshold x some.past g kept some.stands whole (there_in x some.past g some.stands inside) at in
    let most = few_identities x.world.n whole.greatest in
    omega (arith, small, most)

-- ---- refusals of both lines

not_first : (a b : Bool) → a ≡ false → not (a && b) ≡ true
not_first false b e = refl
not_first true b e = absurd (cc)

not_second : (a b : Bool) → b ≡ false → not (a && b) ≡ true
not_second true false e = refl
not_second false false e = refl
not_second a true e = absurd (cc)

not_neither : (a b : Bool) → a ≡ true → b ≡ true → not (a && b) ≡ false
not_neither true true e f = refl
not_neither true false e f = absurd (cc)
not_neither false b e f = absurd (cc)

pub no_vcpu_to_save : (x : CoreState) (vm vcpu k : ℕ) → is_vcpu_in x.world.vms (vcpu_of vm vcpu) ≡ false
    → CoreTakes x x (Save vm vcpu k) (Refused words.Range)
no_vcpu_to_save x vm vcpu k none = refused x (Save vm vcpu k) (Refused words.Range) (λ h stands.
    save_refusal h vm vcpu k stands.there ∙ cond-true _ _ _
    (not_first (has_vcpu h (vcpu_of vm vcpu)) (nat_lt k (parts_in (file_words h))) (missing_in x h (vcpu_of vm vcpu) stands none)))

pub no_such_part : (x : CoreState) (vm vcpu k : ℕ) → (x.world.n + 1) / 64 + 3 ≤ k → CoreTakes x x (Save vm vcpu k) (Refused words.Range)
no_such_part x vm vcpu k past = refused x (Save vm vcpu k) (Refused words.Range) (λ h stands.
    let beyond : nat_lt k (parts_in (file_words h)) ≡ false = ap (λ n. nat_lt k ((n + 1) / 64 + 3)) (sym stands.greatest)
    ∙ (let out : nat_lt k ((x.world.n + 1) / 64 + 3) ≡ false = grind (arith, nat_tests) in out) in
    save_refusal h vm vcpu k stands.there ∙ cond-true _ _ _ (not_second (has_vcpu h (vcpu_of vm vcpu)) (nat_lt k (parts_in (file_words h))) beyond))

in_image : (x : CoreState) (h : History) (k : ℕ) → CoreStands x h → k < (x.world.n + 1) / 64 + 3 → nat_lt k (parts_in (file_words h)) ≡ true
in_image x h k stands low = ap (λ n. nat_lt k ((n + 1) / 64 + 3)) (sym stands.greatest)
    ∙ (let inside : nat_lt k ((x.world.n + 1) / 64 + 3) ≡ true = grind (arith, nat_tests) in inside)

pub not_parked_to_save : (x : CoreState) (vm vcpu k : ℕ) (word : Refusal) → is_vcpu_in x.world.vms (vcpu_of vm vcpu) ≡ true
    → k < (x.world.n + 1) / 64 + 3 → parked_at (record_of x (vcpu_of vm vcpu)).stay ≡ Err word → CoreTakes x x (Save vm vcpu k) (Refused word)
not_parked_to_save x vm vcpu k word inside low e = refused x (Save vm vcpu k) (Refused word) (λ h stands.
    let there = there_in x h (vcpu_of vm vcpu) stands inside in
    save_refusal h vm vcpu k stands.there
    ∙ cond-false _ _ _ (not_neither (has_vcpu h (vcpu_of vm vcpu)) (nat_lt k (parts_in (file_words h))) there (in_image x h k stands low))
    ∙ not_parked x h (vcpu_of vm vcpu) (record_of x (vcpu_of vm vcpu)).stay word stands there refl e)

pub no_vcpu_to_load : (x : CoreState) (vm vcpu : ℕ) (part : Part) → is_vcpu_in x.world.vms (vcpu_of vm vcpu) ≡ false
    → CoreTakes x x (LoadPart vm vcpu part) (Refused words.Range)
no_vcpu_to_load x vm vcpu part none = refused x (LoadPart vm vcpu part) (Refused words.Range) (λ h stands.
    load_part_refusal h vm vcpu part stands.there
    ∙ cond-true _ _ _ (not_first (has_vcpu h (vcpu_of vm vcpu)) (is_loadable (greatest_identity_of h) part)
    (missing_in x h (vcpu_of vm vcpu) stands none)))

pub not_loadable : (x : CoreState) (vm vcpu : ℕ) (part : Part) → is_loadable x.world.n part ≡ false
    → CoreTakes x x (LoadPart vm vcpu part) (Refused words.Range)
not_loadable x vm vcpu part bad = refused x (LoadPart vm vcpu part) (Refused words.Range) (λ h stands.
    load_part_refusal h vm vcpu part stands.there
    ∙ cond-true _ _ _ (not_second (has_vcpu h (vcpu_of vm vcpu)) (is_loadable (greatest_identity_of h) part)
    (ap (λ n. is_loadable n part) (sym stands.greatest) ∙ bad)))

pub not_parked_to_load : (x : CoreState) (vm vcpu : ℕ) (part : Part) (word : Refusal) → is_vcpu_in x.world.vms (vcpu_of vm vcpu) ≡ true
    → is_loadable x.world.n part ≡ true → parked_at (record_of x (vcpu_of vm vcpu)).stay ≡ Err word
    → CoreTakes x x (LoadPart vm vcpu part) (Refused word)
not_parked_to_load x vm vcpu part word inside good e = refused x (LoadPart vm vcpu part) (Refused word) (λ h stands.
    let there = there_in x h (vcpu_of vm vcpu) stands inside in
    load_part_refusal h vm vcpu part stands.there
    ∙ cond-false _ _ _ (not_neither (has_vcpu h (vcpu_of vm vcpu)) (is_loadable (greatest_identity_of h) part) there
    (ap (λ n. is_loadable n part) (sym stands.greatest) ∙ good))
    ∙ not_parked x h (vcpu_of vm vcpu) (record_of x (vcpu_of vm vcpu)).stay word stands there refl e)

-- ---- a part is given

pub saves : (x : CoreState) (vm vcpu k : ℕ) (kept : KeptNumbers) (part : Part) → is_vcpu_in x.world.vms (vcpu_of vm vcpu) ≡ true
    → IsWhole x.world → (record_of x (vcpu_of vm vcpu)).stay ≡ stays.InMemory Parked kept → k < (x.world.n + 1) / 64 + 3
    → part ≡ part_of (state_in x (slot_of x.world.vms (vcpu_of vm vcpu)) kept) k → CoreTakes x x (Save vm vcpu k) (kinds.Part part)
saves x vm vcpu k kept part inside whole at low is = accepted x x (Save vm vcpu k) (kinds.Part part) refl refl (λ h stands.
    let g = vcpu_of vm vcpu in
    let there = there_in x h g stands inside in (
      save_refusal h vm vcpu k stands.there ∙ cond-false _ _ _
          (not_neither (has_vcpu h g) (nat_lt k (parts_in (file_words h))) there (in_image x h k stands low))
          ∙ is_not_refused x h g kept stands there at,
      ap kinds.Part (is ∙ ap (λ s. part_of s k) (its_state x h g kept stands there at whole)),
      nothing_done x h (Accepted (Save vm vcpu k)) stands (hosts_line h (Save vm vcpu k) refl refl (λ g. refl) (λ g m. refl)) (λ f inside. refl),
    ))

-- ---- a part is loaded

loads : (x y : CoreState) (vm vcpu : ℕ) (part : Part) (kept : KeptNumbers) → is_vcpu_in x.world.vms (vcpu_of vm vcpu) ≡ true
    → (record_of x (vcpu_of vm vcpu)).stay ≡ stays.InMemory Parked kept → is_loadable x.world.n part ≡ true
    → ((h : History) → CoreStands x h → has_vcpu h (vcpu_of vm vcpu) ≡ true → Changes x y h (Accepted (LoadPart vm vcpu part)))
    → CoreTakes x y (LoadPart vm vcpu part) Okay
loads x y vm vcpu part kept inside at good changes = accepted x y (LoadPart vm vcpu part) Okay refl refl (λ h stands.
    let g = vcpu_of vm vcpu in
    let there = there_in x h g stands inside in (
      load_part_refusal h vm vcpu part stands.there
          ∙ cond-false _ _ _ (not_neither (has_vcpu h g) (is_loadable (greatest_identity_of h) part) there
          (ap (λ n. is_loadable n part) (sym stands.greatest) ∙ good)) ∙ is_not_refused x h g kept stands there at,
      refl,
      changes h stands there,
    ))

-- what is known where a part is loaded
pub record IsLoad (x y : CoreState) (vm vcpu : ℕ) (kept : KeptNumbers) (part : Part) : Type 0 where
  pub inside : is_vcpu_in x.world.vms (vcpu_of vm vcpu) ≡ true
  pub whole : IsWhole x.world
  pub at : (record_of x (vcpu_of vm vcpu)).stay ≡ stays.InMemory Parked kept
  pub good : is_loadable x.world.n part ≡ true
  pub leases : y.leases ≡ x.leases
  pub selects : y.selects ≡ x.selects
  pub passes : y.passes ≡ x.passes

-- its majors, or their registers
of_majors : (h : History) (vm vcpu injected enabled : ℕ)
    → IsOfMajors h (Accepted (LoadPart vm vcpu (parts.Majors injected enabled))) (vcpu_of vm vcpu) (majors_loaded (parts.Majors injected enabled))
of_majors h vm vcpu injected enabled = record {
  quiet = quiet_line h (LoadPart vm vcpu (parts.Majors injected enabled)) refl;
  none = refl;
  host = λ f. refl;
  file = λ s file. ap (λ b. file_after s (cond b (Loads (parts.Majors injected enabled)) Rests) file) (is_itself (vcpu_of vm vcpu));
  select = λ s. ap (λ b. select_after (cond b (Loads (parts.Majors injected enabled)) Rests) s) (is_itself (vcpu_of vm vcpu));
  others = λ other ne. cond-false _ _ _ ne;
  other_majors = λ other ne m. cond-false _ _ _ ne;
  own = λ m. cond-true _ _ _ (is_itself (vcpu_of vm vcpu));
}

of_registers : (h : History) (vm vcpu hviprio hvictl : ℕ)
    → IsOfMajors h (Accepted (LoadPart vm vcpu (parts.Prio hviprio hvictl))) (vcpu_of vm vcpu) (majors_loaded (parts.Prio hviprio hvictl))
of_registers h vm vcpu hviprio hvictl = record {
  quiet = quiet_line h (LoadPart vm vcpu (parts.Prio hviprio hvictl)) refl;
  none = refl;
  host = λ f. refl;
  file = λ s file. ap (λ b. file_after s (cond b (Loads (parts.Prio hviprio hvictl)) Rests) file) (is_itself (vcpu_of vm vcpu));
  select = λ s. ap (λ b. select_after (cond b (Loads (parts.Prio hviprio hvictl)) Rests) s) (is_itself (vcpu_of vm vcpu));
  others = λ other ne. cond-false _ _ _ ne;
  other_majors = λ other ne m. cond-false _ _ _ ne;
  own = λ m. cond-true _ _ _ (is_itself (vcpu_of vm vcpu));
}

pub majors_are_loaded : (x y : CoreState) (vm vcpu injected enabled : ℕ) (kept : KeptNumbers)
    → IsLoad x y vm vcpu kept (parts.Majors injected enabled) → HasMajors x y (vcpu_of vm vcpu) (majors_loaded (parts.Majors injected enabled))
    → CoreTakes x y (LoadPart vm vcpu (parts.Majors injected enabled)) Okay
majors_are_loaded x y vm vcpu injected enabled kept c has =
    loads x y vm vcpu (parts.Majors injected enabled) kept c.inside c.at c.good (λ h stands there.
    majors_change x y h (Accepted (LoadPart vm vcpu (parts.Majors injected enabled))) (vcpu_of vm vcpu)
    (majors_loaded (parts.Majors injected enabled)) has (of_majors h vm vcpu injected enabled) stands there)

pub registers_are_loaded : (x y : CoreState) (vm vcpu hviprio hvictl : ℕ) (kept : KeptNumbers)
    → IsLoad x y vm vcpu kept (parts.Prio hviprio hvictl) → HasMajors x y (vcpu_of vm vcpu) (majors_loaded (parts.Prio hviprio hvictl))
    → CoreTakes x y (LoadPart vm vcpu (parts.Prio hviprio hvictl)) Okay
registers_are_loaded x y vm vcpu hviprio hvictl kept c has =
    loads x y vm vcpu (parts.Prio hviprio hvictl) kept c.inside c.at c.good (λ h stands there.
    majors_change x y h (Accepted (LoadPart vm vcpu (parts.Prio hviprio hvictl))) (vcpu_of vm vcpu) (majors_loaded (parts.Prio hviprio hvictl))
    has (of_registers h vm vcpu hviprio hvictl) stands there)

-- its numbers
numbers_loaded : (w : World) (q : ℕ) (was now : KeptNumbers) (version n threshold select : ℕ) (delivery : Bool)
    → now.delivery ≡ bit_number delivery → now.threshold ≡ threshold → threshold ≤ w.n
    → SameFile (file_in_memory w q now) (file_loaded (parts.Image version n delivery threshold select) (file_in_memory w q was))
numbers_loaded w q was now version n threshold select delivery is_delivery is_threshold low = record {
  n = refl;
  pending = λ i. refl;
  enabled = λ i. refl;
  threshold = is_threshold ∙ sym (mod-eq_of_lt at_most);
  delivery = is_delivery ∙ a_bit delivery;
}
  where
    at_most : threshold < w.n + 1
    at_most = omega (arith, low)

    a_bit : (b : Bool) → bit_number b ≡ bit_number b % 2
    a_bit true = refl
    a_bit false = refl

-- what is known of it: the record alone is written
pub record IsNumbersLoad (x y : CoreState) (vm vcpu : ℕ) (kept now : KeptNumbers) (version n threshold select : ℕ) (delivery : Bool) : Type 0 where
  pub load : IsLoad x y vm vcpu kept (parts.Image version n delivery threshold select)
  pub world : y.world ≡ x.world
  pub low : slot_of x.world.vms (vcpu_of vm vcpu) < length x.vcpus
  pub vcpus : y.vcpus ≡ set x.vcpus (slot_of x.world.vms (vcpu_of vm vcpu))
      (record (record_of x (vcpu_of vm vcpu)) {
        stay = stays.InMemory Parked now;
        select =
            select_written (ops.Write select) (record_of x (vcpu_of vm vcpu)).select;
      })
  pub is_delivery : now.delivery ≡ bit_number delivery
  pub is_threshold : now.threshold ≡ threshold

module _ (x y : CoreState) (vm vcpu : ℕ) (kept now : KeptNumbers) (version n threshold select : ℕ) (delivery : Bool)
    (c : IsNumbersLoad x y vm vcpu kept now version n threshold select delivery) where
  abbrev image_g : Vcpu
  image_g = vcpu_of vm vcpu

  abbrev image : Part
  image = parts.Image version n delivery threshold select

  abbrev image_event : Event
  image_event = Accepted (LoadPart vm vcpu (parts.Image version n delivery threshold select))

  slot : (other : Vcpu) → slot_of y.world.vms other ≡ slot_of x.world.vms other
  slot other = ap (λ (w : World). slot_of w.vms other) c.world

  own : record_of y image_g ≡ record (record_of x image_g)
      { stay = stays.InMemory Parked now; select = select_written (ops.Write select) (record_of x image_g).select }
  own = (λ k. get_or (c.vcpus k) (slot image_g k) no_record) ∙ get_or-set_same x.vcpus (slot_of x.world.vms image_g) _ no_record c.low

  stay : (record_of y image_g).stay ≡ stays.InMemory Parked now
  stay = ap (λ (r : VcpuRecord). r.stay) own

  small : threshold ≤ x.world.n
  small =
      let all = and_parts (nat_eq version 1 && nat_eq n x.world.n && nat_le threshold x.world.n) (nat_lt select 0x1000) c.load.good in
      let is : nat_le threshold x.world.n ≡ true = (and_parts (nat_eq version 1 && nat_eq n x.world.n) (nat_le threshold x.world.n) all.0).1 in
      grind (arith, nat_tests)

  pub numbers_are_loaded : CoreTakes x y (LoadPart vm vcpu image) Okay
  numbers_are_loaded = loads x y vm vcpu image kept c.load.inside c.load.at c.load.good (λ h stands there.
      memory_deed x y h image_event image_g (InMemory Parked) kept now (Loads image) (record {
        stands = stands;
        whole = c.load.whole;
        inside = there;
        quiet = quiet_line h (LoadPart vm vcpu image) refl;
        rests = refl;
        home_was = ap home_in c.load.at;
        hand_was = ap hand_in c.load.at;
        home_is = ap home_in stay;
        hand_is = ap hand_in stay;
        plan = subst (PlanStands y.world image_g) (sym stay) tt;
        its_passes = subst (HasItsPasses (passes_of (image_event ∷ h)) image_g) (sym stay) tt;
        its_deed = cond-true _ _ _ (is_itself image_g);
        other_deeds = λ other ne. cond-false _ _ _ ne;
        other_majors = λ other ne m. cond-false _ _ _ ne;
        threshold = 0;
        slot_deed = λ file. file;
        slot = subst (λ (w : World). DoneInSlot x.world (with_memory x.world w) (slot_of x.world.vms image_g) 0 (λ file. file)) (sym c.world)
            (record {
              done = as_it_was (file_of_slot x.world (slot_of x.world.vms image_g) 0);
              kept = λ i outside. (refl, refl);
              elsewhere =
                  λ place apart. refl;
              rest = refl;
            });
        notifies = nothing_told x (but_memory x y) h image_event (ap (λ (w : World). with_memory w x.world) c.world) c.load.selects refl (λ f. refl);
        leases = c.load.leases;
        passes = c.load.passes;
        records = ap (λ (rs : List VcpuRecord). length rs) c.vcpus ∙ length-set x.vcpus (slot_of x.world.vms image_g) _;
        select = ap (λ (r : VcpuRecord). r.select) own;
        majors = ap (λ (r : VcpuRecord). majors_shown r.majors) own ∙ sym (cond-true _ _ _ (is_itself image_g));
        others = λ other ne. (λ k. get_or (c.vcpus k) (slot other k) no_record)
            ∙ get_or-set_other x.vcpus (slot_of x.world.vms image_g) (slot_of x.world.vms other) _ no_record ne;
        file = subst (λ (w : World). SameFile (file_in_memory w (slot_of x.world.vms image_g) now)
            (file_loaded image (file_in_memory x.world (slot_of x.world.vms image_g) kept))) (sym c.world)
            (numbers_loaded x.world (slot_of x.world.vms image_g) kept now version n threshold select delivery c.is_delivery c.is_threshold small);
      }))

-- a word of its sets

-- what is known of it: m is the world between the load and the notice
pub record IsWordLoad (x y : CoreState) (m : World) (vm vcpu : ℕ) (kept : KeptNumbers) (w pending enable : ℕ) : Type 0 where
  pub load : IsLoad x y vm vcpu kept (parts.Word w pending enable)
  pub vcpus : y.vcpus ≡ x.vcpus
  pub done : DoneInSlot x.world m (slot_of x.world.vms (vcpu_of vm vcpu)) 0 (sets_loaded w pending enable)
  pub memory : y.world.memory ≡ m.memory

module _ (x y : CoreState) (m : World) (vm vcpu : ℕ) (kept : KeptNumbers) (w pending enable : ℕ)
    (c : IsWordLoad x y m vm vcpu kept w pending enable) where
  abbrev g : Vcpu
  g = vcpu_of vm vcpu

  abbrev part : Part
  part = parts.Word w pending enable

  abbrev event : Event
  event = Accepted (LoadPart vm vcpu (parts.Word w pending enable))

  same_n : m.n ≡ x.world.n
  same_n = ap (λ (u : World). u.n) c.done.rest

  sets : SameFile (file_in_memory m (slot_of x.world.vms g) kept) (file_loaded part (file_in_memory x.world (slot_of x.world.vms g) kept))
  sets = record { n = c.done.done.n; pending = c.done.done.pending; enabled = c.done.done.enabled; threshold = refl; delivery = refl }

  -- whether an identity of the word is both pending and enabled then
  pub live_after : (h : History) → CoreStands x h → has_vcpu h g ≡ true
      → is_live (file_of_slot m (slot_of x.world.vms g) 0) w ≡ is_live (file_loaded part (guest_file h g)) w
  live_after h stands there =
      ap (λ (f : InterruptFile). is_live f w) (same_file _ _ sets)
      ∙ ap (λ f. is_live (file_loaded part f) w) (sym (its_file x h g kept stands there c.load.at c.load.whole))

  word_changes : (h : History) → CoreStands x h → has_vcpu h g ≡ true → y.world.n ≡ x.world.n → y.world.vms ≡ x.world.vms
      → OnlyNotifies x (but_memory x y) h event → Changes x y h event
  word_changes h stands there n vms notifies = memory_deed x y h event g (InMemory Parked) kept kept (Loads part) (record {
    stands = stands;
    whole = c.load.whole;
    inside = there;
    quiet = quiet_line h (LoadPart vm vcpu part) refl;
    rests = refl;
    home_was = ap home_in c.load.at;
    hand_was = ap hand_in c.load.at;
    home_is = ap home_in stay;
    hand_is = ap hand_in stay;
    plan = subst (PlanStands y.world g) (sym stay) tt;
    its_passes = subst (HasItsPasses (passes_of (event ∷ h)) g) (sym stay) tt;
    its_deed = cond-true _ _ _ (is_itself g);
    other_deeds = λ other ne. cond-false _ _ _ ne;
    other_majors = λ other ne s. cond-false _ _ _ ne;
    threshold = 0;
    slot_deed = sets_loaded w pending enable;
    slot = subst (λ (u : World). DoneInSlot x.world u (slot_of x.world.vms g) 0 (sets_loaded w pending enable))
        (c.done.rest ∙ ap (λ memory. record x.world { memory = memory }) (sym c.memory)) c.done;
    notifies = notifies;
    leases = c.load.leases;
    passes = c.load.passes;
    records = ap (λ (rs : List VcpuRecord). length rs) c.vcpus;
    select = ap (λ (r : VcpuRecord). r.select) (same g);
    majors = ap (λ (r : VcpuRecord). majors_shown r.majors) (same g) ∙ sym (cond-true _ _ _ (is_itself g));
    others = λ other ne. same other;
    file = subst (λ (f : InterruptFile). SameFile f (file_loaded part (file_in_memory x.world (slot_of x.world.vms g) kept))) now_is sets;
  })
    where
      same : (other : Vcpu) → record_of y other ≡ record_of x other
      same other k = get_or (c.vcpus k) (slot_of (vms k) other) no_record

      stay : (record_of y g).stay ≡ stays.InMemory Parked kept
      stay = ap (λ (r : VcpuRecord). r.stay) (same g) ∙ c.load.at

      now_is : file_in_memory m (slot_of x.world.vms g) kept ≡ file_in_memory y.world (slot_of x.world.vms g) kept
      now_is = λ k. file_in_memory (record m { n = (same_n ∙ sym n) k; memory = sym c.memory k }) (slot_of x.world.vms g) kept

  -- it is quiet where none is
  pub word_untold : y.world ≡ m → is_live (file_of_slot m (slot_of x.world.vms g) 0) w ≡ false → CoreTakes x y (LoadPart vm vcpu part) Okay
  word_untold world none = loads x y vm vcpu part kept c.load.inside c.load.at c.load.good (λ h stands there.
      let quiet : noticed h event ≡ None = cond-false _ _ _ (sym (live_after h stands there) ∙ none) in
      let rest : y.world ≡ record x.world { memory = m.memory } = world ∙ c.done.rest in
      word_changes h stands there (ap (λ (u : World). u.n) rest) (ap (λ (u : World). u.vms) rest)
      (nothing_told x (but_memory x y) h event (ap (λ (u : World). with_memory u x.world) rest) c.load.selects quiet (λ f. refl)))

  -- and else its notice is sent
  pub word_told : Posts m y.world (spots.SupervisorFile (notice_hart x.world.vms g)) (notice_identity x.world.vms g)
      → is_live (file_of_slot m (slot_of x.world.vms g) 0) w ≡ true → CoreTakes x y (LoadPart vm vcpu part) Okay
  word_told posts some = loads x y vm vcpu part kept c.load.inside c.load.at c.load.good (λ h stands there.
      let loud : noticed h event ≡ Some g = cond-true _ _ _ (sym (live_after h stands there) ∙ some) in
      word_changes h stands there (ap (λ (u : World). u.n) rest) (ap (λ (u : World). u.vms) rest)
      (one_told x (but_memory x y) h event g stands c.load.whole there c.load.selects loud (λ f. refl) but_posts))
    where
      rest : y.world ≡ record x.world { imsic = y.world.imsic; notices = y.world.notices; memory = m.memory }
      rest = posts.rest ∙ ap (λ (u : World). record u { imsic = y.world.imsic; notices = y.world.notices }) c.done.rest

      but_posts : Posts x.world (with_memory y.world x.world) (spots.SupervisorFile (notice_hart x.world.vms g)) (notice_identity x.world.vms g)
      but_posts = record {
        lands = subst (λ (i : ImsicState). LandsIn i y.world.imsic (spots.SupervisorFile (notice_hart x.world.vms g)) 0
            (notice_identity x.world.vms g)) (ap (λ (u : World). u.imsic) c.done.rest) posts.lands;
        count = posts.count ∙ ap (λ (u : World). counted u.notices) c.done.rest;
        rest = ap (λ (u : World). with_memory u x.world) rest;
      }
