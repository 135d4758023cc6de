-- What a step of a move makes of the world shows in the places of the virtual hart that is moved as
-- that access.
use Rattle.std.proofs.Common.{◌≡◌, ℕ, ◌+◌, ◌/◌, ◌%◌, ◌<◌, ◌≤◌, Bool, true, false, nat_lt, List, get_or, length, Option, Some, None, refl, sym, ap, ◌∙◌, subst, arith}
use Rattle.std.specs.Prelude.{bit_or}
use Rattle.std.proofs.Math.ListN.{set}
use Rattle.std.proofs.lemmas.Bool.{ltb-true, and_parts}
use Rattle.std.proofs.lemmas.Bool.Decides.{nat_tests}
use Rattle.aia_word.specs.Sets.{has_bit, is_in}
use Rattle.aia_regs.specs.declared.access.Op.TheVariants as ops
use Rattle.aia_regs.specs.declared.file_registers.FileReg.{FileReg}
use Rattle.aia_regs.specs.declared.file_registers.FileReg.TheVariants.{Delivery, Threshold}
use Rattle.aia_file.specs.FileState.{FileState, shown}
use Rattle.aia_file.specs.InterruptFile.{accessed, is_greatest_identity}
use Rattle.aia_file.specs.Imsic.{IsThere, file_at}
use Rattle.aia_file.specs.Mrif.{Mrif, pending_place, enable_place}
use Rattle.aia_vcpu.specs.declared.place.GuestPlace.{GuestPlace}
use Rattle.aia_vcpu.specs.Vms.{Vcpu, vcpu_of, is_vcpu_in, slot_of}
use Rattle.aia_vcpu.specs.Home.{Way, Home, Progress, left, led_to, is_file, end_at, old_end, is_place}
use Rattle.aia_vcpu.specs.Home.Home.{OnWay}
use Rattle.aia_vcpu.specs.Home.Way.{Across}
use Rattle.aia_vcpu.specs.BySteps.{own_of, next_of, own_file, next_file, new_file}
use Rattle.aia_vcpu.specs.Plans.{IsNext}
use Rattle.aia_vcpu.specs.declared.access.Access.{Access}
use Rattle.aia_vcpu.proofs.HomeLemmas.{left_is_own, own_from_memory, next_from_memory, next_from_file, next_is_led_to}
use Rattle.aia_vcpu.specs.declared.access.Access.TheVariants.{TakeDelivery, PutDelivery, WriteNotice, WriteEntry, Fence, Map, GFence, TakePending, PutPending, TakeEnables, PutEnables, Look, TakeThreshold, PutThreshold, Post}
use Rattle.aia_vcpu_places.specs.Places.{Places, old_sets, new_sets, entry_word, second_word}
use Rattle.aia_vcpu_places.specs.Holds.{Hand}
use Rattle.aia_vcpu_places.specs.Steps.{StepMade, Shows, with_old_sets, with_new_sets, with_end_file, without_word, joined_by, replaced_by}
use Rattle.aia_vcpu_places.specs.Stores.{HasApart, AreApart}
use Rattle.aia_fabric_values.specs.World.{World}
use Rattle.aia_fabric_values.specs.Whole.{IsWhole}
use Rattle.aia_fabric_values.specs.Changes.{PutsRegister, spot_of, file_in, pending_words, pending_at, with_pending, enable_words, enable_at, with_enable, with_word, with_state}
use Rattle.aia_move_values.specs.Views.{places_of}
use Rattle.aia_fabric_values.proofs.WholeLemmas.{notice_hart_there}
use Rattle.aia_move_values.specs.declared.who.Who.{Who}
use Rattle.aia_move_values.specs.Move.{Moving, mover, width, spot_in, place_at, PostsIf, Makes, hand_after, MoveFits, MakesNext}
use Rattle.aia_move_values.proofs.ViewLemmas.{IsNoFile, own-replaced, next-replaced, own-put, next-put, word_taken, word_joined, word_replaced, slot_pending-written, slot_enabled-written, slot_pending-joined, nothing_replaced, place_shows, slot_low, has_slot, in_slot-places, word0-places, word1-places, fence-places, map-places, gfence-places, posts-places}
use Rattle.aia_regs.specs.declared.limits.TheConstants.{IDENTITIES, WORDS_OF_SLOTS, FILE_WORDS}

pub few_words : (n : ℕ) → is_greatest_identity n ≡ true → (n + 1) / 64 ≤ FILE_WORDS
few_words n greatest = let few : n ≤ IDENTITIES = grind (arith, nat_tests) in omega arith

pub other_way : (a b : GuestPlace) → is_place a b ≡ false → is_place b a ≡ false
other_way a b apart = grind (arith, nat_tests)

no_file : (w : World) (p : GuestPlace) → IsNoFile w p None
no_file w p r e = absurd (cc)

one_file : (w : World) (p r : GuestPlace) → IsThere w.imsic (spot_of r) → is_place r p ≡ false → IsNoFile w p (Some r)
one_file w p r there apart s e = let same : r ≡ s = cc in
    subst (λ (x : GuestPlace). IsThere w.imsic (spot_of x) × (is_place x p ≡ false)) same (there, apart)

row_shows : (words : List ℕ) (k : ℕ) → Shows (get_or words k 0) k (is_in words)
row_shows words k i e = ap (λ x. has_bit (get_or words x 0) (i % 64)) (sym e)

-- ---- what a move does with its files, and with its slot

module _ (w u : World) (g : Vcpu) (there : Home) (p : GuestPlace) (k v : ℕ) (whole : IsWhole w) (stands : IsThere w.imsic (spot_of p)) where
  abbrev was : FileState
  was = file_at w.imsic (spot_of p)

  abbrev changed : FileState → Type 0
  changed f = u ≡ with_state w (spot_of p) f

  own-pending_taken : own_file there ≡ Some p → IsNoFile w p (next_file there) → changed (record was { pending = set was.pending k 0 })
      → places_of u g there ≡ record (places_of w g there)
      { own = record (places_of w g there).own { pending = without_word k (places_of w g there).own.pending } }
  own-pending_taken is none e =
      ap (λ (x : World). places_of x g there) e ∙ own-replaced w g there p (record was { pending = set was.pending k 0 }) whole stands is none
      ∙ ap (λ members. record (places_of w g there) { own = record (shown was) { pending = members } }) (word_taken was.pending k)
      ∙ ap (λ o. record (places_of w g there) { own = record (file_in w o) { pending = without_word k (file_in w o).pending } }) (sym is)

  own-enables_taken : own_file there ≡ Some p → IsNoFile w p (next_file there) → changed (record was { enabled = set was.enabled k 0 })
      → places_of u g there ≡ record (places_of w g there)
      { own = record (places_of w g there).own { enabled = without_word k (places_of w g there).own.enabled } }
  own-enables_taken is none e =
      ap (λ (x : World). places_of x g there) e ∙ own-replaced w g there p (record was { enabled = set was.enabled k 0 }) whole stands is none
      ∙ ap (λ members. record (places_of w g there) { own = record (shown was) { enabled = members } }) (word_taken was.enabled k)
      ∙ ap (λ o. record (places_of w g there) { own = record (file_in w o) { enabled = without_word k (file_in w o).enabled } }) (sym is)

  own-pending_joined : own_file there ≡ Some p → IsNoFile w p (next_file there) → k < length was.pending
      → changed (record was { pending = set was.pending k (bit_or (get_or was.pending k 0) v) })
      → places_of u g there ≡ record (places_of w g there)
      { own = record (places_of w g there).own { pending = joined_by k v (places_of w g there).own.pending } }
  own-pending_joined is none low e =
      ap (λ (x : World). places_of x g there) e ∙ own-replaced w g there p
      (record was { pending = set was.pending k (bit_or (get_or was.pending k 0) v) }) whole stands is none
      ∙ ap (λ members. record (places_of w g there) { own = record (shown was) { pending = members } }) (word_joined was.pending k v low)
      ∙ ap (λ o. record (places_of w g there) { own = record (file_in w o) { pending = joined_by k v (file_in w o).pending } }) (sym is)

  own-enables_replaced : own_file there ≡ Some p → IsNoFile w p (next_file there) → k < length was.enabled
      → changed (record was { enabled = set was.enabled k v })
      → places_of u g there ≡ record (places_of w g there)
      { own = record (places_of w g there).own { enabled = replaced_by k v (places_of w g there).own.enabled } }
  own-enables_replaced is none low e =
      ap (λ (x : World). places_of x g there) e ∙ own-replaced w g there p (record was { enabled = set was.enabled k v }) whole stands is none
      ∙ ap (λ members. record (places_of w g there) { own = record (shown was) { enabled = members } }) (word_replaced was.enabled k v low)
      ∙ ap (λ o. record (places_of w g there) { own = record (file_in w o) { enabled = replaced_by k v (file_in w o).enabled } }) (sym is)

  next-pending_joined : next_file there ≡ Some p → IsNoFile w p (own_file there) → k < length was.pending
      → changed (record was { pending = set was.pending k (bit_or (get_or was.pending k 0) v) })
      → places_of u g there ≡ record (places_of w g there)
      { next = record (places_of w g there).next { pending = joined_by k v (places_of w g there).next.pending } }
  next-pending_joined is none low e =
      ap (λ (x : World). places_of x g there) e ∙ next-replaced w g there p
      (record was { pending = set was.pending k (bit_or (get_or was.pending k 0) v) }) whole stands is none
      ∙ ap (λ members. record (places_of w g there) { next = record (shown was) { pending = members } }) (word_joined was.pending k v low)
      ∙ ap (λ o. record (places_of w g there) { next = record (file_in w o) { pending = joined_by k v (file_in w o).pending } }) (sym is)

  next-enables_replaced : next_file there ≡ Some p → IsNoFile w p (own_file there) → k < length was.enabled
      → changed (record was { enabled = set was.enabled k v })
      → places_of u g there ≡ record (places_of w g there)
      { next = record (places_of w g there).next { enabled = replaced_by k v (places_of w g there).next.enabled } }
  next-enables_replaced is none low e =
      ap (λ (x : World). places_of x g there) e ∙ next-replaced w g there p (record was { enabled = set was.enabled k v }) whole stands is none
      ∙ ap (λ members. record (places_of w g there) { next = record (shown was) { enabled = members } }) (word_replaced was.enabled k v low)
      ∙ ap (λ o. record (places_of w g there) { next = record (file_in w o) { enabled = replaced_by k v (file_in w o).enabled } }) (sym is)

module _ (w u : World) (g : Vcpu) (there : Home) (q k v : ℕ) (whole : IsWhole w) (stands : is_vcpu_in w.vms g ≡ true) (is : q ≡ slot_of w.vms g)
    (few : k < FILE_WORDS) where
  slot-pending_taken : u ≡ with_word w (pending_place q k) 0
      → places_of u g there ≡ record (places_of w g there)
      { slot = record (places_of w g there).slot { pending = without_word k (places_of w g there).slot.pending } }
  slot-pending_taken e =
      let low : pending_place (slot_of w.vms g) k < WORDS_OF_SLOTS = let below = slot_low w g whole stands in omega arith in
      ap (λ (x : World). places_of x g there) (e ∙ ap (λ r. with_word w (pending_place r k) 0) is)
      ∙ in_slot-places w g there whole stands (pending_place (slot_of w.vms g) k) 0 low
      ∙ ap (λ (m : Mrif). record (places_of w g there) { slot = m })
      (slot_pending-written w.memory (slot_of w.vms g) k 0 (has_slot w (slot_of w.vms g) whole (slot_low w g whole stands)) few)
      ∙ ap (λ members. record (places_of w g there) { slot = record (places_of w g there).slot { pending = members } })
      (nothing_replaced k (places_of w g there).slot.pending)

  slot-enables_taken : u ≡ with_word w (enable_place q k) 0
      → places_of u g there ≡ record (places_of w g there)
      { slot = record (places_of w g there).slot { enabled = without_word k (places_of w g there).slot.enabled } }
  slot-enables_taken e =
      let low : enable_place (slot_of w.vms g) k < WORDS_OF_SLOTS = let below = slot_low w g whole stands in omega arith in
      ap (λ (x : World). places_of x g there) (e ∙ ap (λ r. with_word w (enable_place r k) 0) is)
      ∙ in_slot-places w g there whole stands (enable_place (slot_of w.vms g) k) 0 low
      ∙ ap (λ (m : Mrif). record (places_of w g there) { slot = m })
      (slot_enabled-written w.memory (slot_of w.vms g) k 0 (has_slot w (slot_of w.vms g) whole (slot_low w g whole stands)) few)
      ∙ ap (λ members. record (places_of w g there) { slot = record (places_of w g there).slot { enabled = members } })
      (nothing_replaced k (places_of w g there).slot.enabled)

  slot-pending_joined : u ≡ with_word w (pending_place q k) (bit_or (get_or w.memory (pending_place q k) 0) v)
      → places_of u g there ≡ record (places_of w g there)
      { slot = record (places_of w g there).slot { pending = joined_by k v (places_of w g there).slot.pending } }
  slot-pending_joined e =
      let low : pending_place (slot_of w.vms g) k < WORDS_OF_SLOTS = let below = slot_low w g whole stands in omega arith in
      ap (λ (x : World). places_of x g there) (e ∙ ap (λ r. with_word w (pending_place r k) (bit_or (get_or w.memory (pending_place r k) 0) v)) is)
      ∙ in_slot-places w g there whole stands (pending_place (slot_of w.vms g) k)
      (bit_or (get_or w.memory (pending_place (slot_of w.vms g) k) 0) v) low
      ∙ ap (λ (m : Mrif). record (places_of w g there) { slot = m })
      (slot_pending-joined w.memory (slot_of w.vms g) k v (has_slot w (slot_of w.vms g) whole (slot_low w g whole stands)) few)

  slot-enables_replaced : u ≡ with_word w (enable_place q k) v
      → places_of u g there ≡ record (places_of w g there)
      { slot = record (places_of w g there).slot { enabled = replaced_by k v (places_of w g there).slot.enabled } }
  slot-enables_replaced e =
      let low : enable_place (slot_of w.vms g) k < WORDS_OF_SLOTS = let below = slot_low w g whole stands in omega arith in
      ap (λ (x : World). places_of x g there) (e ∙ ap (λ r. with_word w (enable_place r k) v) is)
      ∙ in_slot-places w g there whole stands (enable_place (slot_of w.vms g) k) v low
      ∙ ap (λ (m : Mrif). record (places_of w g there) { slot = m })
      (slot_enabled-written w.memory (slot_of w.vms g) k v (has_slot w (slot_of w.vms g) whole (slot_low w g whole stands)) few)

  slot_pending-shows : Shows (get_or w.memory (pending_place q k) 0) k (places_of w g there).slot.pending
  slot_pending-shows i e = ap (λ r. has_bit (get_or w.memory (pending_place r k) 0) (i % 64)) is
      ∙ place_shows (pending_place (slot_of w.vms g)) w.memory k i few e

  slot_enables-shows : Shows (get_or w.memory (enable_place q k) 0) k (places_of w g there).slot.enabled
  slot_enables-shows i e = ap (λ r. has_bit (get_or w.memory (enable_place r k) 0) (i % 64)) is
      ∙ place_shows (enable_place (slot_of w.vms g)) w.memory k i few e

-- ---- what is carried

carried_word : (k x : ℕ) (members : ℕ → Bool) (hand now : Hand) → Shows x k members → now ≡ record hand { word = x } → Shows now.word k members
    × (now ≡ record hand { word = now.word })
carried_word k x members hand now shows c = (
  λ i e. ap (λ (h : Hand). has_bit h.word (i % 64)) c ∙ shows i e,
  c
      ∙ ap (λ word. record hand { word = word }) (sym (ap (λ (h : Hand). h.word) c)),
)

-- ---- the accesses of every move

module _ (w u : World) (who : Who) (there : Home) (hand now : Hand) (whole : IsWhole w)
    (fits : MoveFits w (record { who = who; home = there; hand = hand })) where
  abbrev it : Vcpu
  it = vcpu_of who.found.vm who.found.vcpu

  abbrev Made : Access → Type 0
  Made access = StepMade who.found.slot who.found.notice access there (places_of w it there) hand (places_of u it there) now

  abbrev DoesMake : Access → Type 0
  DoesMake access = Makes access (record { who = who; home = there; hand = hand }) w u

  write_notice-made : DoesMake WriteNotice → now ≡ hand → Made WriteNotice
  write_notice-made e c = record {
    places = ap (λ (x : World). places_of x it there) e
        ∙ word1-places w it there whole fits.there (second_word who.found.slot who.found.notice);
    carried = c;
  }

  write_entry-made : DoesMake WriteEntry → now ≡ hand → Made WriteEntry
  write_entry-made e c = record {
    places = ap (λ (x : World). places_of x it there) e
        ∙ word0-places w it there whole fits.there (entry_word who.found.slot (new_file there));
    carried = c;
  }

  fence-made : DoesMake Fence → now ≡ hand → Made Fence
  fence-made e c = record { places = ap (λ (x : World). places_of x it there) e ∙ fence-places w it there whole fits.there; carried = c }

  map-made : DoesMake Map → now ≡ hand → Made Map
  map-made e c = record { places = ap (λ (x : World). places_of x it there) e ∙ map-places w it there whole fits.there (new_file there); carried = c }

  gfence-made : DoesMake GFence → now ≡ hand → Made GFence
  gfence-made e c = record { places = ap (λ (x : World). places_of x it there) e ∙ gfence-places w it there whole fits.there; carried = c }

  notice_low : who.found.notice < w.imsic.harts
  notice_low = let low = notice_hart_there w it whole fits.there in omega (arith, low, fits.notice)

  post-made : (seen : Bool) → PostsIf seen w u who.found.notice (who.found.slot + 1) → now ≡ hand → Made Post
  post-made true posts c = record {
    places = posts-places w u it there who.found.notice (who.found.slot + 1) notice_low fits.own fits.next posts;
    carried = c;
  }
  post-made false e c = record { places = ap (λ (x : World). places_of x it there) e; carried = c }

  look-made : (k : ℕ) → k < FILE_WORDS → DoesMake (Look k) → now ≡ hand_after (Look k) (record { who = who; home = there; hand = hand }) w
      → Made (Look k)
  look-made k few e c = record {
    places = ap (λ (x : World). places_of x it there) e;
    carried = (
      get_or w.memory (pending_place who.found.slot k) 0,
      get_or w.memory (enable_place who.found.slot k) 0,
      slot_pending-shows w u it there who.found.slot k 0 whole fits.there fits.slot few,
      slot_enables-shows w u it there who.found.slot k 0 whole fits.there fits.slot few,
      c,
    );
  }

  of_width : (k : ℕ) → nat_lt k (width w) ≡ true → k < FILE_WORDS
  of_width k e = let low : k < width w = ltb-true _ _ e in let few = few_words w.n whole.greatest in omega (arith, low, few)

-- ---- the ends of a move

-- the two files of a move are apart
apart_files : (way : Way) (f p : GuestPlace) → HasApart way → left way ≡ Some f → led_to way ≡ Some p → is_place f p ≡ false
apart_files (Across from to) f p apart e too = let old : from ≡ f = cc in let new : to ≡ p = cc in ap (λ (x : GuestPlace). is_place x p) (sym old)
    ∙ ap (is_place from) (sym new) ∙ apart
apart_files way f p apart e too = absurd (cc)

module _ (w u : World) (who : Who) (way : Way) (at : Progress) (hand now : Hand) (whole : IsWhole w)
    (fits : MoveFits w (record { who = who; home = OnWay way at; hand = hand })) (apart : HasApart way) where
  abbrev its : Home
  its = OnWay way at

  abbrev moved : Vcpu
  moved = vcpu_of who.found.vm who.found.vcpu

  abbrev view : Places
  view = places_of w moved its

  abbrev after : Places
  after = places_of u moved its

  narrow : (k : ℕ) → nat_lt k (width w) ≡ true → k < FILE_WORDS
  narrow k e = of_width w u who its hand now whole fits k e

  -- what it holds beside its own file
  alone : (p : GuestPlace) → left way ≡ Some p → IsNoFile w p (next_of way)
  alone p e = by_next (next_of way) refl
    where
      by_next : (o : Option GuestPlace) → next_of way ≡ o → IsNoFile w p o
      by_next None n = no_file w p
      by_next (Some r) n = one_file w p r (fits.next r n) (other_way p r (apart_files way p r apart e (next_is_led_to way r n)))

  alone_there : (p : GuestPlace) → left way ≡ None → IsNoFile w p (next_of way)
  alone_there p from = subst (IsNoFile w p) (sym (next_from_memory way from)) (no_file w p)

  beside : (f p : GuestPlace) → left way ≡ Some f → led_to way ≡ Some p → IsNoFile w p (own_of way)
  beside f p e too = let own = left_is_own way f e in
      subst (IsNoFile w p) (sym own) (one_file w p f (fits.own f own) (apart_files way f p apart e too))

  -- a register of the old end, and of the new one
  taken_register : (old : Option GuestPlace) (reg : FileReg) → left way ≡ old → is_file (end_at old) ≡ true → PutsRegister w u (spot_in old) reg 0
      → after ≡ record view { own = accessed reg (ops.Write 0) view.own }
  taken_register None reg e has made = absurd (cc)
  taken_register (Some p) reg e has made = let own = left_is_own way p e in own-put w u moved its p reg 0 whole (fits.own p own) made own (alone p e)

  put_register : (old new : Option GuestPlace) (reg : FileReg) (v : ℕ) → left way ≡ old → led_to way ≡ new → is_file (end_at new) ≡ true
      → PutsRegister w u (spot_in new) reg v → after ≡ with_end_file (end_at old) (end_at new) view (accessed reg (ops.Write v))
  put_register None None reg v e too has made = absurd (cc)
  put_register (Some f) None reg v e too has made = absurd (cc)
  put_register None (Some p) reg v e too has made = let own = own_from_memory way p e too in
      own-put w u moved its p reg v whole (fits.own p own) made own (alone_there p e)
  put_register (Some f) (Some p) reg v e too has made = let next = next_from_file way f p e too in
      next-put w u moved its p reg v whole (fits.next p next) made next (beside f p e too)

  carried_delivery : (old : Option GuestPlace) → left way ≡ old → is_file (end_at old) ≡ true
      → (file_at w.imsic (spot_in old)).delivery ≡ view.own.delivery
  carried_delivery None e has = absurd (cc)
  carried_delivery (Some p) e has = ap (λ o. (file_in w o).delivery) (sym (left_is_own way p e))

  carried_threshold : (old : Option GuestPlace) → left way ≡ old → is_file (end_at old) ≡ true
      → (file_at w.imsic (spot_in old)).threshold ≡ view.own.threshold
  carried_threshold None e has = absurd (cc)
  carried_threshold (Some p) e has = ap (λ o. (file_in w o).threshold) (sym (left_is_own way p e))

  -- a word of the old end, and what is carried of it
  taken_pending : (old : Option GuestPlace) (k : ℕ) → left way ≡ old → nat_lt k (width w) ≡ true
      → u ≡ with_pending w (place_at old who.found.slot) k 0
      → after ≡ with_old_sets (end_at old) view (record (old_sets view (end_at old))
      { pending = without_word k (old_sets view (end_at old)).pending })
  taken_pending None k e has made = slot-pending_taken w u moved its who.found.slot k hand.word whole fits.there fits.slot (narrow k has) made
  taken_pending (Some p) k e has made = let own = left_is_own way p e in
      own-pending_taken w u moved its p k hand.word whole (fits.own p own) own (alone p e) made

  taken_enables : (old : Option GuestPlace) (k : ℕ) → left way ≡ old → nat_lt k (width w) ≡ true → u ≡ with_enable w (place_at old who.found.slot) k 0
      → after ≡ with_old_sets (end_at old) view (record (old_sets view (end_at old))
      { enabled = without_word k (old_sets view (end_at old)).enabled })
  taken_enables None k e has made = slot-enables_taken w u moved its who.found.slot k hand.word whole fits.there fits.slot (narrow k has) made
  taken_enables (Some p) k e has made = let own = left_is_own way p e in
      own-enables_taken w u moved its p k hand.word whole (fits.own p own) own (alone p e) made

  shown_pending : (old : Option GuestPlace) (k : ℕ) → left way ≡ old → nat_lt k (width w) ≡ true
      → Shows (pending_at w (place_at old who.found.slot) k) k (old_sets view (end_at old)).pending
  shown_pending None k e has = slot_pending-shows w u moved its who.found.slot k 0 whole fits.there fits.slot (narrow k has)
  shown_pending (Some p) k e has = subst (λ o. Shows (get_or (file_at w.imsic (spot_of p)).pending k 0) k (file_in w o).pending)
      (sym (left_is_own way p e)) (row_shows (file_at w.imsic (spot_of p)).pending k)

  shown_enables : (old : Option GuestPlace) (k : ℕ) → left way ≡ old → nat_lt k (width w) ≡ true
      → Shows (enable_at w (place_at old who.found.slot) k) k (old_sets view (end_at old)).enabled
  shown_enables None k e has = slot_enables-shows w u moved its who.found.slot k 0 whole fits.there fits.slot (narrow k has)
  shown_enables (Some p) k e has = subst (λ o. Shows (get_or (file_at w.imsic (spot_of p)).enabled k 0) k (file_in w o).enabled)
      (sym (left_is_own way p e)) (row_shows (file_at w.imsic (spot_of p)).enabled k)

  -- a word of the new end
  put_pending : (old new : Option GuestPlace) (k : ℕ) → left way ≡ old → led_to way ≡ new → nat_lt k (width w) ≡ true
      → (k < pending_words w (place_at new who.found.slot))
      × (u ≡ with_pending w (place_at new who.found.slot) k (bit_or (pending_at w (place_at new who.found.slot) k) hand.word))
      → after ≡ with_new_sets (end_at old) (end_at new) view
      (record (new_sets view (end_at old) (end_at new)) { pending = joined_by k hand.word (new_sets view (end_at old) (end_at new)).pending })
  put_pending None None k e too has made = slot-pending_joined w u moved its who.found.slot k hand.word whole fits.there fits.slot
      (narrow k has) made.1
  put_pending (Some f) None k e too has made = slot-pending_joined w u moved its who.found.slot k hand.word whole fits.there fits.slot
      (narrow k has) made.1
  put_pending None (Some p) k e too has made = let own = own_from_memory way p e too in
      own-pending_joined w u moved its p k hand.word whole (fits.own p own) own (alone_there p e) made.0 made.1
  put_pending (Some f) (Some p) k e too has made = let next = next_from_file way f p e too in
      next-pending_joined w u moved its p k hand.word whole (fits.next p next) next (beside f p e too) made.0 made.1

  put_enables : (old new : Option GuestPlace) (k : ℕ) → left way ≡ old → led_to way ≡ new → nat_lt k (width w) ≡ true
      → (k < enable_words w (place_at new who.found.slot)) × (u ≡ with_enable w (place_at new who.found.slot) k hand.word)
      → after ≡ with_new_sets (end_at old) (end_at new) view
      (record (new_sets view (end_at old) (end_at new)) { enabled = replaced_by k hand.word (new_sets view (end_at old) (end_at new)).enabled })
  put_enables None None k e too has made = slot-enables_replaced w u moved its who.found.slot k hand.word whole fits.there fits.slot
      (narrow k has) made.1
  put_enables (Some f) None k e too has made = slot-enables_replaced w u moved its who.found.slot k hand.word whole fits.there fits.slot
      (narrow k has) made.1
  put_enables None (Some p) k e too has made = let own = own_from_memory way p e too in
      own-enables_replaced w u moved its p k hand.word whole (fits.own p own) own (alone_there p e) made.0 made.1
  put_enables (Some f) (Some p) k e too has made = let next = next_from_file way f p e too in
      next-enables_replaced w u moved its p k hand.word whole (fits.next p next) next (beside f p e too) made.0 made.1

  -- ---- each access

  made_by : (access : Access) → IsNext (width w) its access → Makes access (record { who = who; home = its; hand = hand }) w u
      → now ≡ hand_after access (record { who = who; home = its; hand = hand }) w
      → StepMade who.found.slot who.found.notice access its view hand after now
  made_by WriteNotice next makes c = write_notice-made w u who its hand now whole fits makes c
  made_by WriteEntry next makes c = write_entry-made w u who its hand now whole fits makes c
  made_by Fence next makes c = fence-made w u who its hand now whole fits makes c
  made_by Map next makes c = map-made w u who its hand now whole fits makes c
  made_by GFence next makes c = gfence-made w u who its hand now whole fits makes c
  made_by TakeDelivery next makes c = record {
    places = taken_register (left way) Delivery refl next.has makes;
    carried = c ∙ ap (λ delivery. record hand { delivery = delivery }) (carried_delivery (left way) refl next.has);
  }
  made_by TakeThreshold next makes c = record {
    places = taken_register (left way) Threshold refl next.has makes;
    carried = c ∙ ap (λ threshold. record hand { threshold = threshold }) (carried_threshold (left way) refl next.has);
  }
  made_by PutDelivery next makes c = record {
    places = put_register (left way) (led_to way) Delivery hand.delivery refl refl next.has makes;
    carried = c;
  }
  made_by PutThreshold next makes c = record {
    places = put_register (left way) (led_to way) Threshold hand.threshold refl refl next.has makes;
    carried = c;
  }
  made_by (TakePending k) next makes c = record {
    places = taken_pending (left way) k refl next.has makes;
    carried = carried_word k (pending_at w (place_at (left way) who.found.slot) k) (old_sets view (old_end way)).pending hand now
        (shown_pending (left way) k refl next.has) c;
  }
  made_by (PutPending k) next makes c = record { places = put_pending (left way) (led_to way) k refl refl next.has makes; carried = c }
  made_by (TakeEnables k) next makes c = record {
    places = taken_enables (left way) k refl next.has makes;
    carried = carried_word k (enable_at w (place_at (left way) who.found.slot) k) (old_sets view (old_end way)).enabled hand now
        (shown_enables (left way) k refl next.has) c;
  }
  made_by (PutEnables k) next makes c = record { places = put_enables (left way) (led_to way) k refl refl next.has makes; carried = c }
  made_by (Look k) next makes c = look-made w u who its hand now whole fits k (narrow k (and_parts _ _ next.has).1) makes c
  made_by Post next makes c = post-made w u who its hand now whole fits hand.seen makes c

made_at : (access : Access) (w u : World) (who : Who) (there : Home) (hand now : Hand) → IsWhole w
    → MoveFits w (record { who = who; home = there; hand = hand }) → AreApart there → IsNext (width w) there access
    → Makes access (record { who = who; home = there; hand = hand }) w u → now ≡ hand_after access (record { who = who; home = there; hand = hand }) w
    → StepMade who.found.slot who.found.notice access there (places_of w (vcpu_of who.found.vm who.found.vcpu) there) hand
    (places_of u (vcpu_of who.found.vm who.found.vcpu) there) now
made_at access w u who (OnWay way at) hand now whole fits apart next makes c = made_by w u who way at hand now whole fits apart access next makes c
made_at access w u who there hand now whole fits apart next makes c = let no : false ≡ true = next.has in absurd (cc)

-- the step makes its access of the places of the virtual hart that is moved
pub made_view : (w u : World) (m : Moving) (hand : Hand) → IsWhole w → MoveFits w m → AreApart m.home → (step : MakesNext w m u hand)
    → StepMade m.who.found.slot m.who.found.notice step.access m.home (places_of w (mover m) m.home) m.hand (places_of u (mover m) m.home) hand
made_view w u m hand whole fits apart step = made_at step.access w u m.who m.home m.hand hand whole fits apart step.is_next step.makes step.carries
