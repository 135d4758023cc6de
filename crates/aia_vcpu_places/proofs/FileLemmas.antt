-- Where the file is held whole: by the file of a resident virtual hart, at the beginning of a move
-- still by the old file, by the slot of a parked one. So a file that a home holds signals as the
-- history says.
use Rattle.std.proofs.Common.{◌≡◌, Option, not, ℕ, ◌+◌, ◌*◌, ◌/◌, ◌%◌, ◌<◌, Bool, true, false, ◌&&◌, ◌||◌, if◌then◌else◌, nat_eq, nat_lt, is_some, refl, sym, ap, ◌∙◌, subst, inl, inr, arith}
use Rattle.std.proofs.lemmas.Bool.{cases_lt, cases_Bool, and_parts}
use Rattle.std.proofs.lemmas.Bool.Decides.{nat_tests}
use Rattle.aia_word.specs.Sets.{has_bit}
use Rattle.aia_file.specs.InterruptFile.{InterruptFile, SameFile, top_of, signals}
use Rattle.aia_file.proofs.FileLemmas.{same_file}
use Rattle.aia_vcpu.specs.declared.access.Access.TheVariants.{TakeEnables, TakeThreshold, PutThreshold}
use Rattle.aia_vcpu.specs.Plans.{step_of, first_take, is_made}
use Rattle.aia_vcpu.specs.declared.place.GuestPlace.{GuestPlace}
use Rattle.aia_vcpu.specs.Home.{is_file, Home, old_end, rests_in_memory}
use Rattle.aia_vcpu.specs.Home.Home.{InMemory, Resident, OnWay}
use Rattle.aia_vcpu.specs.BySteps.{delivery_in_own}
use Rattle.aia_vcpu_places.specs.Places.{Places, TwoSets, of_file, of_slot, no_sets, old_place, new_place}
use Rattle.aia_vcpu_places.specs.Holds.{IsWithin, Hand, Holds}
use Rattle.aia_vcpu_places.proofs.SetSteps.{HoldsAt, stand-holds, old_has_all}
use Rattle.aia_vcpu_places.proofs.StayLemmas.{own_sets, of_sets, to_sets, is_fresh}

-- ---- where eidelivery is not taken yet

alone : (a b c : Bool) → b ≡ false → (a || (b || (false && c))) ≡ a
alone true false c e = refl
alone false false c e = refl
alone a true c e = absurd (cc)

at_beginning : (words first enables done word : ℕ) (old new : TwoSets) (file : InterruptFile) → HoldsAt words first enables done word old new file
    → done ≡ 0 → ((i : ℕ) → i / 64 < words → new.pending i ≡ false)
    → (i : ℕ) → i / 64 < words → (old.pending i ≡ file.pending i) × (old.enabled i ≡ file.enabled i)
at_beginning words first enables done word old new file h e fresh i l = (
  sym (rw (uncarried (i / 64)) at (h.union i l) ∙ alone (old.pending i) (new.pending i) (has_bit word (i % 64)) (fresh i l)),
  rw (untaken (i / 64)) at (h.old_enables i l),
)
  where
    uncarried : (j : ℕ) → nat_eq done (first + 2 * j + 1) ≡ false
    uncarried j = grind (arith, nat_tests)

    untaken : (j : ℕ) → nat_lt (enables + 2 * j) done ≡ false
    untaken j = grind (arith, nat_tests)

module _ (n words q hart : ℕ) (reach : Option GuestPlace) (v : Places) (hand : Hand) (file : InterruptFile) (saw : Bool)
    (within : IsWithin n words file) (size : v.own.n ≡ n) where
  all_same : (there : Home) → Holds words q hart reach v there hand file saw
      → ((i : ℕ) → i / 64 < words → (v.own.pending i ≡ file.pending i) × (v.own.enabled i ≡ file.enabled i))
      → v.own.delivery ≡ file.delivery → v.own.threshold ≡ file.threshold → SameFile v.own file
  all_same there h sets delivery threshold = record {
    n = size ∙ sym within.greatest;
    pending = λ i. elim (cases_lt (i / 64) words) [
      | inl l ↦ (sets i l).0
      | inr g ↦ (h.sets.past i g).0 ∙ sym (within.pending i g)
    ];
    enabled = λ i. elim (cases_lt (i / 64) words) [
      | inl l ↦ (sets i l).1
      | inr g ↦ (h.sets.past i g).1 ∙ sym (within.enabled i g)
    ];
    threshold = threshold;
    delivery = delivery;
  }

  -- its own file is the file where eidelivery stands in it
  pub own_whole : (there : Home) → Holds words q hart reach v there hand file saw → delivery_in_own there ≡ true → SameFile v.own file
  own_whole (Resident p) h here = all_same (Resident p) h
      (at_beginning words 0 0 0 hand.word (of_file v.own) no_sets file (of_sets words hand.word v (Resident p) file h.sets) refl (λ i l. refl))
      h.numbers.own_delivery h.numbers.own_threshold
  own_whole (OnWay way at) h here =
      let both = and_parts (is_file (old_end way)) (not (nat_lt 0 at.steps)) here in
      let first : at.steps ≡ 0 = grind (arith, nat_tests) in
      let in_own : not (is_made words (OnWay way at) TakeThreshold) ≡ true = grind (arith, nat_tests) in
      let begun = at_beginning words (first_take (OnWay way at)) (step_of words (OnWay way at) (TakeEnables 0)) at.steps hand.word
      (old_place v (OnWay way at)) (new_place v (OnWay way at)) file (of_sets words hand.word v (OnWay way at) file h.sets) first
      (is_fresh words hand.word v (OnWay way at) file h.sets first) in
      all_same (OnWay way at) h (subst (λ (sets : TwoSets). (i : ℕ) → i / 64 < words → (sets.pending i ≡ file.pending i)
      × (sets.enabled i ≡ file.enabled i)) (own_sets v (old_end way) both.0) begun)
      (h.numbers.own_delivery ∙ ap (λ b. if b then file.delivery else 0) here)
      (h.numbers.own_threshold ∙ ap (λ b. if (if b then not (is_made words (OnWay way at) TakeThreshold) else is_made words (OnWay way at)
      PutThreshold) then file.threshold else 0) both.0 ∙ ap (λ b. if b then file.threshold else 0) in_own)
  own_whole there h here = absurd (cc)

  pub resident : (p : GuestPlace) → Holds words q hart reach v (Resident p) hand file saw → SameFile v.own file
  resident p h = own_whole (Resident p) h refl

  -- ---- signals

  pub own_signals : (there : Home) → Holds words q hart reach v there hand file saw → signals v.own ≡ (delivery_in_own there && signals file)
  own_signals there h = elim (cases_Bool (delivery_in_own there)) [
    | inl here ↦ ap signals (same_file v.own file (own_whole there h here)) ∙ ap (λ b. b && signals file) (sym here)
    | inr off ↦
        let quiet : v.own.delivery ≡ 0 = h.numbers.own_delivery ∙ ap (λ b. if b then file.delivery else 0) off in
        ap (λ d. nat_eq d 1 && is_some (top_of v.own)) quiet ∙ ap (λ b. b && signals file) (sym off)
  ]

pub next_signals : (words q hart : ℕ) (reach : Option GuestPlace) (v : Places) (there : Home) (hand : Hand) (file : InterruptFile) (saw : Bool)
    → Holds words q hart reach v there hand file saw → signals v.next ≡ false
next_signals words q hart reach v there hand file saw h = ap (λ d. nat_eq d 1 && is_some (top_of v.next)) h.numbers.next_delivery

-- ---- a resident file is replaced

pub resident_replaced : (n words q hart : ℕ) (reach : Option GuestPlace) (v : Places) (p : GuestPlace) (hand : Hand) (file after : InterruptFile)
    (saw : Bool) → IsWithin n words after → Holds words q hart reach v (Resident p) hand file saw
    → Holds words q hart reach (record v { own = after }) (Resident p) hand after saw
resident_replaced n words q hart reach v p hand file after saw within h = record {
  sets = to_sets words hand.word (record v { own = after }) (Resident p) after
      (stand-holds words hand.word (of_file after) after (λ i l. (refl, refl))) (λ z i l. refl) h.sets.spare
      (λ i l. (within.pending i l, within.enabled i l, (h.sets.past i l).2, (h.sets.past i l).3, (h.sets.past i l).4));
  numbers = record {
    own_delivery = refl;
    next_delivery = h.numbers.next_delivery;
    kept_delivery = λ z. absurd (cc);
    own_threshold = refl;
    next_threshold = h.numbers.next_threshold;
    kept_threshold = λ z. absurd (cc);
  };
  routes = record {
    word0 = h.routes.word0;
    word1 = h.routes.word1;
    in_force = h.routes.in_force;
    may = h.routes.may;
    stage = h.routes.stage;
    stage_in_force = h.routes.stage_in_force;
  };
  looks = refl;
}

-- ---- one whose interrupts rest in memory

module _ (n words q hart : ℕ) (reach : Option GuestPlace) (v : Places) (hand : Hand) (file : InterruptFile) (saw : Bool) where
  pub memory-pending : (there : Home) → rests_in_memory there ≡ true → Holds words q hart reach v there hand file saw → (i : ℕ) → i / 64 < words
      → v.slot.pending i ≡ file.pending i
  memory-pending (InMemory rest) rests h i l = sym
      (old_has_all words hand.word (of_slot v.slot) file (of_sets words hand.word v (InMemory rest) file h.sets) i l).0
  memory-pending there rests h i l = absurd (cc)

  pub memory-enabled : (there : Home) → rests_in_memory there ≡ true → Holds words q hart reach v there hand file saw → IsWithin n words file
      → (i : ℕ) → v.slot.enabled i ≡ file.enabled i
  memory-enabled (InMemory rest) rests h within i = elim (cases_lt (i / 64) words) [
    | inl l ↦ (old_has_all words hand.word (of_slot v.slot) file (of_sets words hand.word v (InMemory rest) file h.sets) i l).1
    | inr g ↦ (h.sets.past i g).4 ∙ sym (within.enabled i g)
  ]
  memory-enabled there rests h within i = absurd (cc)
