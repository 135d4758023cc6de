-- A store that lands in a guest file, or in a slot, shows in the places of the virtual hart to which
-- that one belongs, and in those of no other.
use Rattle.std.proofs.Common.{◌≡◌, ◌≢◌, ℕ, ◌+◌, ◌/◌, ◌<◌, ◌≤◌, Bool, true, false, ◌||◌, List, get_or, Option, Some, None, inl, inr, refl, sym, ap, ◌∙◌, subst, arith}
use Rattle.std.proofs.lemmas.Bool.{cases_Bool}
use Rattle.std.proofs.lemmas.Bool.Decides.{nat_tests}
use Rattle.std.proofs.lemmas.List.{get_or-set_other}
use Rattle.aia_regs.specs.declared.limits.TheConstants.{IDENTITIES, VCPUS, SLOTS, WORDS_OF_SLOTS}
use Rattle.aia_regs.specs.Request.{requested}
use Rattle.aia_regs.proofs.RequestLemmas.{requested_in_range}
use Rattle.aia_file.specs.InterruptFile.{InterruptFile, landed}
use Rattle.aia_file.specs.FileState.{shown}
use Rattle.aia_file.proofs.FileLemmas.{same_file}
use Rattle.aia_file.specs.Imsic.{ImsicState, IsThere, file_at}
use Rattle.aia_file.specs.Mrif.{mrif_in, pending_place, after_store}
use Rattle.aia_file.specs.Words.{words_after_store}
use Rattle.aia_vcpu.specs.declared.place.GuestPlace.{GuestPlace}
use Rattle.aia_vcpu.specs.Vms.{Vcpu, slot_of}
use Rattle.aia_vcpu.proofs.HomeLemmas.{same_place, either_file}
use Rattle.aia_vcpu.specs.Home.{Home, is_place, holds}
use Rattle.aia_vcpu.specs.Home.Home.{InMemory, OnWay}
use Rattle.aia_vcpu.specs.Home.Way.{Across}
use Rattle.aia_vcpu.specs.BySteps.{own_file, next_file}
use Rattle.aia_vcpu_places.specs.Stores.{places_landed, AreApart}
use Rattle.aia_fabric_values.specs.World.{World}
use Rattle.aia_fabric_values.specs.Whole.{IsWhole}
use Rattle.aia_fabric_values.specs.Making.{entry_word_place}
use Rattle.aia_fabric_values.specs.Stores.{StoresIn, with_store}
use Rattle.aia_fabric_values.specs.Changes.{spot_of, file_in, with_state}
use Rattle.aia_move_values.specs.Views.{places_of}
use Rattle.aia_fabric_values.proofs.PlaceLemmas.{slot_takes_store, other_slot_stays}
use Rattle.aia_move_values.proofs.ViewLemmas.{IsNoFile, own-replaced, next-replaced, has_slot, file_in-other}

-- ---- in a guest file

module _ (w u : World) (g : Vcpu) (p : GuestPlace) (offset value : ℕ) (whole : IsWhole w) (stands : IsThere w.imsic (spot_of p))
    (stores : StoresIn w u (spot_of p) offset value) where
  one_state : u ≡ with_state w (spot_of p) (file_at u.imsic (spot_of p))
  one_state = stores.rest ∙ ap (λ (j : ImsicState). record w { imsic = j }) stores.lands.others

  own-landed : (there : Home) → own_file there ≡ Some p → IsNoFile w p (next_file there)
      → places_of u g there ≡ record (places_of w g there) { own = landed offset value (places_of w g there).own }
  own-landed there is none =
      ap (λ (x : World). places_of x g there) one_state ∙ own-replaced w g there p (file_at u.imsic (spot_of p)) whole stands is none
      ∙ ap (λ (file : InterruptFile). record (places_of w g there) { own = file })
      (same_file (shown (file_at u.imsic (spot_of p))) (landed offset value (shown (file_at w.imsic (spot_of p)))) stores.lands.lands
      ∙ ap (λ o. landed offset value (file_in w o)) (sym is))

  next-landed : (there : Home) → next_file there ≡ Some p → IsNoFile w p (own_file there)
      → places_of u g there ≡ record (places_of w g there) { next = landed offset value (places_of w g there).next }
  next-landed there is none =
      ap (λ (x : World). places_of x g there) one_state ∙ next-replaced w g there p (file_at u.imsic (spot_of p)) whole stands is none
      ∙ ap (λ (file : InterruptFile). record (places_of w g there) { next = file })
      (same_file (shown (file_at u.imsic (spot_of p))) (landed offset value (shown (file_at w.imsic (spot_of p)))) stores.lands.lands
      ∙ ap (λ o. landed offset value (file_in w o)) (sym is))

  no_next : IsNoFile w p None
  no_next r e = absurd (cc)

  one_file : (q r : GuestPlace) → IsThere w.imsic (spot_of q) → is_place q p ≡ false → q ≡ r → IsThere w.imsic (spot_of r) × (is_place r p ≡ false)
  one_file q r there apart same = subst (λ (x : GuestPlace). IsThere w.imsic (spot_of x) × (is_place x p ≡ false)) same (there, apart)

  other_way : (a b : GuestPlace) → is_place a b ≡ false → is_place b a ≡ false
  other_way a b apart = grind (arith, nat_tests)

  -- of the home that holds it
  pub file_store-places : (there : Home) → holds p there ≡ true → AreApart there
      → ((r : GuestPlace) → own_file there ≡ Some r → IsThere w.imsic (spot_of r))
      → ((r : GuestPlace) → next_file there ≡ Some r → IsThere w.imsic (spot_of r))
      → places_of u g there ≡ places_landed (Some p) there offset value (places_of w g there)
  file_store-places (InMemory rest) held apart own next = absurd (cc)
  file_store-places (OnWay (Across from to) at) held apart own next = elim (cases_Bool (is_place p to)) [
    | inl second ↦
        let same : p ≡ to = same_place p to second in
        let not_from : is_place from p ≡ false = ap (λ (x : GuestPlace). is_place from x) same ∙ apart in
        next-landed (OnWay (Across from to) at) (ap Some (sym same))
        (λ r e. let is : from ≡ r = cc in one_file from r (own from refl) not_from is) ∙ sym (rw second refl)
    | inr first ↦
        let same : p ≡ from = same_place p from (either (is_place p from) (is_place p to) held first) in
        let not_to : is_place to p ≡ false = other_way p to first in
        own-landed (OnWay (Across from to) at) (ap Some (sym same)) (λ r e. let is : to ≡ r = cc in one_file to r (next to refl) not_to is)
        ∙ sym (rw first refl)
  ]
    where
      either : (a b : Bool) → (a || b) ≡ true → b ≡ false → a ≡ true
      either true b e f = refl
      either false true e f = absurd (cc)
      either false false e f = absurd (cc)
  file_store-places there held apart own next = elim (either_file p there held) [ inl is ↦ own-landed there is no_next | inr none ↦ absurd (cc) ]

  -- of every other one
  pub file_store-others : (there : Home) → ((r : GuestPlace) → own_file there ≡ Some r → IsThere w.imsic (spot_of r) × (is_place r p ≡ false))
      → ((r : GuestPlace) → next_file there ≡ Some r → IsThere w.imsic (spot_of r) × (is_place r p ≡ false))
      → places_of u g there ≡ places_of w g there
  file_store-others there own next =
      let e = file_in-other w p (file_at u.imsic (spot_of p)) (own_file there) stands own in
      let o = file_in-other w p (file_at u.imsic (spot_of p)) (next_file there) stands next in
      let all : places_of (with_state w (spot_of p) (file_at u.imsic (spot_of p))) g there ≡ places_of w g there =
      λ k. record (places_of w g there) { own = e k; next = o k } in
      ap (λ (x : World). places_of x g there) one_state ∙ all

-- ---- in a slot

entry_kept : (words : List ℕ) (q place : ℕ) (o : Option ℕ) → q < SLOTS → WORDS_OF_SLOTS ≤ place → ((i : ℕ) → o ≡ Some i → i ≤ IDENTITIES)
    → get_or (words_after_store words q o) place 0 ≡ get_or words place 0
entry_kept words q place None low high small = refl
entry_kept words q place (Some i) low high small = let few = small i refl in
    get_or-set_other words (pending_place q (i / 64)) place _ 0 (λ e. omega arith)

module _ (w : World) (g : Vcpu) (q offset value : ℕ) (whole : IsWhole w) (low : q < VCPUS) where
  pub entry_words_kept : (get_or (with_store w q offset value).memory (entry_word_place g.vm g.vcpu) 0 ≡ get_or w.memory
      (entry_word_place g.vm g.vcpu) 0)
      × (get_or (with_store w q offset value).memory (entry_word_place g.vm g.vcpu + 1) 0 ≡ get_or w.memory (entry_word_place g.vm g.vcpu + 1) 0)
  entry_words_kept =
      let small : (i : ℕ) → requested IDENTITIES offset value ≡ Some i
      → i ≤ IDENTITIES = λ i e. (requested_in_range IDENTITIES offset value i e).1 in (
        entry_kept w.memory q (entry_word_place g.vm g.vcpu) (requested IDENTITIES offset value) low (omega arith) small,
        entry_kept w.memory q (entry_word_place g.vm g.vcpu + 1) (requested IDENTITIES offset value) low (omega arith) small,
      )

module _ (w : World) (g : Vcpu) (there : Home) (q offset value : ℕ) (whole : IsWhole w) (low : q < VCPUS) where
  -- of the virtual hart whose slot it is
  pub slot_store-places : q ≡ slot_of w.vms g → places_of (with_store w q offset value) g there ≡ places_landed None there offset value
      (places_of w g there)
  slot_store-places is =
      let words = entry_words_kept w g q offset value whole low in
      let takes = slot_takes_store w.memory q offset value (has_slot w q whole low) in
      let taken : mrif_in (words_after_store w.memory q (requested IDENTITIES offset value)) q ≡ after_store offset value (mrif_in w.memory q) =
      λ k. record { pending = λ i. takes.pending i k; enabled = λ i. takes.enabled i k } in
      let slot : mrif_in (words_after_store w.memory q (requested IDENTITIES offset value)) (slot_of w.vms g) ≡ after_store offset value
      (mrif_in w.memory (slot_of w.vms g)) =
      ap (λ r. mrif_in (words_after_store w.memory q (requested IDENTITIES offset value)) r) (sym is) ∙ taken
      ∙ ap (λ r. after_store offset value (mrif_in w.memory r)) is in
      λ k. record (places_of w g there) { slot = slot k; word0 = words.0 k; word1 = words.1 k }

  -- of every other one
  pub slot_store-others : q ≢ slot_of w.vms g → places_of (with_store w q offset value) g there ≡ places_of w g there
  slot_store-others other =
      let words = entry_words_kept w g q offset value whole low in
      let slot = other_slot_stays w.memory q (slot_of w.vms g) offset value other in
      λ k. record (places_of w g there) { slot = slot k; word0 = words.0 k; word1 = words.1 k }
