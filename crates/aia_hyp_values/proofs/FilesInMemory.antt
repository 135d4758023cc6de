-- The interrupt file of a virtual hart whose interrupts rest in memory: its slot shows it, with the
-- two numbers that are kept beside the slot.
use Rattle.std.proofs.Common.{◌≡◌, ℕ, ◌+◌, ◌*◌, ◌/◌, ◌<◌, ◌≤◌, Bool, true, false, ◌&&◌, is_some, Option, Some, None, inl, inr, refl, sym, ap, subst, ◌∙◌, arith}
use Rattle.std.specs.Int.{is_in_range}
use Rattle.std.proofs.lemmas.Bool.{cases_Bool, cases_eq, false≢true}
use Rattle.std.proofs.lemmas.Bool.Decides.{nat_tests}
use Rattle.aia_word.specs.Sets.{least_of}
use Rattle.aia_word.specs.Top.{top_identity, lets_through}
use Rattle.aia_word.proofs.LeastLemmas.{least_of_is, least_of_is_none}
use Rattle.aia_regs.specs.declared.limits.TheConstants.{VCPUS}
use Rattle.aia_file.specs.InterruptFile.{InterruptFile, is_greatest_identity, is_shared, top_of}
use Rattle.aia_file.proofs.FileLemmas.{same_file}
use Rattle.aia_file.specs.Mrif.{mrif_in}
use Rattle.aia_vcpu.specs.Vms.{Vcpu, slot_of, notice_hart}
use Rattle.aia_vcpu.specs.Home.{rests_in_memory}
use Rattle.aia_vcpu_places.specs.Holds.{HasSets, Hand}
use Rattle.aia_vcpu_places.proofs.MemoryKept.{memory_has, memory_kept}
use Rattle.aia_fabric_values.specs.World.{World}
use Rattle.aia_fabric_values.specs.Whole.{IsWhole}
use Rattle.aia_move_values.specs.Views.{places_of}
use Rattle.aia_fabric_values.specs.SlotAccess.{file_of_slot}
use Rattle.aia_move_values.specs.declared.who.KeptNumbers.{KeptNumbers}
use Rattle.aia_model.specs.Event.{History, greatest_identity_of, file_words}
use Rattle.aia_model.specs.Vms.{vms_of, has_vcpu}
use Rattle.aia_model.specs.GuestFile.{guest_file}
use Rattle.aia_model.specs.ReachOf.{in_force_of}
use Rattle.aia_model.specs.HomeOf.{home}
use Rattle.aia_model.specs.Notice.{a_look_saw, a_word_is_live}
use Rattle.aia_hyp_values.specs.Core.{CoreState, record_of, hand_of, hand_in}
use Rattle.aia_hyp_values.specs.Stands.{CoreStands}
use Rattle.aia_hyp_values.specs.Memory.{file_in_memory}
use Rattle.aia_hyp_values.proofs.GuestStores.{slot_few}
use Rattle.aia_hyp_values.proofs.WithinLemmas.{guest_within, guest_sound}

-- ---- an identity that is both pending and enabled, by words and in all

some_of : (o : Option ℕ) → is_some o ≡ true → (i : ℕ) × (o ≡ Some i)
some_of (Some i) is = (i, refl)
some_of None is = absurd (cc)

pub is_live_in : (n words : ℕ) (pending enabled : ℕ → Bool) → n + 1 ≡ 64 * words → pending 0 ≡ false
    → is_some (least_of (is_shared pending enabled) 0 words) ≡ is_some (top_identity n pending enabled 0)
is_live_in n words pending enabled all none = by_found (least_of (is_shared pending enabled) 0 words) (top_identity n pending enabled 0) refl refl
  where
    not_both : (i : ℕ) → (pending i && enabled i) ≡ true → (pending i && enabled i && lets_through 0 i) ≡ false → ⊥
    not_both i both neither = false≢true (sym neither ∙ ap (λ b. b && lets_through 0 i) both)

    some : (i : ℕ) → (pending i && enabled i) ≡ true → 1 ≤ i
    some i both = elim (cases_eq i 0) [
      | inl z ↦ absurd (false≢true (ap (λ b. b && enabled 0) (sym none) ∙ ap (λ j. pending j && enabled j) (sym z) ∙ both))
      | inr more ↦ omega (arith, more)
    ]

    no_member : (w : ℕ) → is_shared pending enabled w ≡ false → (i : ℕ) → 64 * w ≤ i → i < 64 * w + 64
        → (pending i && enabled i && lets_through 0 i) ≡ true → ⊥
    no_member w word i low high here = by_word (least_of (λ i. pending i && enabled i) (64 * w) 64) refl word
      where
        by_word : (o : Option ℕ) → least_of (λ i. pending i && enabled i) (64 * w) 64 ≡ o → is_some o ≡ false → ⊥
        by_word (Some j) e none = false≢true (sym none)
        by_word None e none = false≢true (ap (λ b. b && lets_through 0 i)
            (sym (least_of_is_none (λ i. pending i && enabled i) (64 * w) 64 e i low high)) ∙ here)

    by_found : (a b : Option ℕ) → least_of (is_shared pending enabled) 0 words ≡ a → top_identity n pending enabled 0 ≡ b → is_some a ≡ is_some b
    by_found (Some w) (Some i) e f = refl
    by_found None None e f = refl
    by_found (Some w) None e f =
        let word = least_of_is (is_shared pending enabled) 0 words w e in
        let inside = some_of (least_of (λ i. pending i && enabled i) (64 * w) 64) word.2 in
        let at = least_of_is (λ i. pending i && enabled i) (64 * w) 64 inside.0 inside.1 in
        absurd (not_both inside.0 at.2 (least_of_is_none (λ j. pending j && enabled j && lets_through 0 j) 1 n f inside.0 (some inside.0 at.2)
        (omega (arith, at.1, word.1, all))))
    by_found None (Some i) e f =
        let at = least_of_is (λ j. pending j && enabled j && lets_through 0 j) 1 n i f in
        let word = least_of_is_none (is_shared pending enabled) 0 words e (i / 64) (omega arith) (omega (arith, at.1, all)) in
        absurd (no_member (i / 64) word i (omega arith) (omega arith) at.2)

-- ---- its file

-- no slot has identity 0
pub no_zero : (w : World) (q : ℕ) → IsWhole w → q < VCPUS → ((mrif_in w.memory q).pending 0 ≡ false) × ((mrif_in w.memory q).enabled 0 ≡ false)
no_zero w q whole low = (whole.no_pending_zero q low, whole.no_enabled_zero q low)

-- the sets of a slot as an interrupt file has them
pub in_sets : (n words : ℕ) (slot file : ℕ → Bool) → n + 1 ≡ 64 * words → slot 0 ≡ false → ((i : ℕ) → i / 64 < words → slot i ≡ file i)
    → ((i : ℕ) → n < i → file i ≡ false) → (i : ℕ) → file i ≡ (is_in_range 1 n i && slot i)
in_sets n words slot file all zero same none i = elim (cases_Bool (is_in_range 1 n i)) [
  | inl e ↦
      let low : i ≤ n = grind (arith, nat_tests) in
      sym (same i (omega (arith, low, all))) ∙ sym (ap (λ b. b && slot i) e)
  | inr ne ↦ outside ne ∙ sym (ap (λ b. b && slot i) ne)
]
  where
    outside : is_in_range 1 n i ≡ false → file i ≡ false
    outside ne = elim (cases_eq i 0) [
      | inl z ↦ ap file z ∙ sym (same 0 (omega (arith, all))) ∙ zero
      | inr some ↦ none i (let past : n < i = grind (arith, nat_tests) in past)
    ]

module _ (x : CoreState) (h : History) (g : Vcpu) (kept : KeptNumbers) (stands : CoreStands x h) (whole : IsWhole x.world)
    (there : has_vcpu h g ≡ true) (rests : rests_in_memory (home h g) ≡ true) (hand : hand_in (record_of x g).stay ≡ hand_of kept) where
  greatest : is_greatest_identity (greatest_identity_of h) ≡ true
  greatest = subst (λ n. is_greatest_identity n ≡ true) stands.greatest whole.greatest

  pub has_its_sets : HasSets (file_words h) (mrif_in x.world.memory (slot_of x.world.vms g)) (guest_file h g)
  has_its_sets = memory_has (greatest_identity_of h) (file_words h) (slot_of (vms_of h) g) (notice_hart (vms_of h) g) (in_force_of h g)
      (places_of x.world g (home h g)) (hand_in (record_of x g).stay) (guest_file h g) (a_look_saw h g) (home h g) rests
      (guest_within h g greatest) (stands.vcpus g there).holds

  -- it is the history's
  pub file_is : guest_file h g ≡ file_in_memory x.world (slot_of x.world.vms g) kept
  file_is =
      let within = guest_within h g greatest in
      let sound = guest_sound h g in
      let zero = no_zero x.world (slot_of x.world.vms g) whole (slot_few x h g stands whole there) in
      let n : (guest_file h g).n ≡ x.world.n = within.greatest ∙ sym stands.greatest in
      let all : x.world.n + 1 ≡ 64 * file_words h = ap (λ n. n + 1) stands.greatest ∙ within.all_words in
      let numbers = memory_kept (file_words h) (slot_of (vms_of h) g) (notice_hart (vms_of h) g) (in_force_of h g)
      (places_of x.world g (home h g)) (hand_in (record_of x g).stay) (guest_file h g) (a_look_saw h g) (home h g) rests
      (stands.vcpus g there).holds in
      same_file _ _ (record {
        n = n;
        pending = in_sets x.world.n (file_words h) (mrif_in x.world.memory (slot_of x.world.vms g)).pending (guest_file h g).pending all zero.0
            (λ i low. (has_its_sets.inside i low).0) (λ i past. sound.pending i (subst (λ m. m < i) (sym n) past));
        enabled = in_sets x.world.n (file_words h) (mrif_in x.world.memory (slot_of x.world.vms g)).enabled (guest_file h g).enabled all zero.1
            (λ i low. (has_its_sets.inside i low).1) (λ i past. sound.enabled i (subst (λ m. m < i) (sym n) past));
        threshold = sym numbers.1 ∙ ap (λ (hand : Hand). hand.threshold) hand;
        delivery = sym numbers.0 ∙ ap (λ (hand : Hand). hand.delivery) hand;
      })

  -- the identity on top with no threshold is one that is pending and enabled
  pub live_is : a_word_is_live h g ≡ is_some (top_of (file_of_slot x.world (slot_of x.world.vms g) 0))
  live_is =
      let within = guest_within h g greatest in
      let n : greatest_identity_of h ≡ x.world.n = sym stands.greatest in
      let file = file_of_slot x.world (slot_of x.world.vms g) 0 in
      is_live_in (greatest_identity_of h) (file_words h) (guest_file h g).pending (guest_file h g).enabled within.all_words
      (ap (λ (f : InterruptFile). f.pending 0) file_is)
      ∙ ap (λ (f : InterruptFile). is_some (top_identity (greatest_identity_of h) f.pending f.enabled 0)) file_is
      ∙ ap (λ m. is_some (top_identity m file.pending file.enabled 0)) n
