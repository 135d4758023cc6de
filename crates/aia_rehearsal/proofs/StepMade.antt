-- The access of a step is made by the executor of a move, on a way whose ends are the places of the
-- rehearsal: it is what the step makes, and what is carried then is what the step carries.
use Rattle.std.proofs.Common.{◌≡◌, ℕ, ◌<◌, false, Option, Some, IfSome, nat_eq, bit_or, refl, sym, ap, ◌∙◌, subst, arith}
use Rattle.std.specs.Int.{w64}
use Rattle.std.proofs.lemmas.Nat.Bits.{bit_at_clear_same}
use Rattle.aia_word.specs.Sets.{has_bit}
use Rattle.aia_regs.specs.declared.file_registers.FileReg.TheVariants.{Delivery, Threshold}
use Rattle.aia_file.specs.Imsic.{file_at}
use Rattle.aia_vcpu.specs.declared.place.GuestPlace.{GuestPlace}
use Rattle.aia_vcpu.specs.declared.access.Access.{Access}
use Rattle.aia_vcpu.specs.declared.access.Access.TheVariants as accesses
use Rattle.aia_vcpu.specs.Home.{Way, Progress, left, led_to, at_first}
use Rattle.aia_vcpu.specs.Home.Way.{Outward, Inward, Across}
use Rattle.aia_vcpu_places.specs.Places.{entry_word}
use Rattle.aia_vcpu_places.specs.Holds.{Hand}
use Rattle.aia_fabric_values.specs.World.{World}
use Rattle.aia_fabric_values.specs.Changes.{PutsRegister, pending_words, enable_words, pending_at, with_pending, enable_at, with_enable, with_entry_word, with_map}
use Rattle.aia_move_values.specs.Move.{spot_in, place_at}
use Rattle.aia_move_values.specs.Accesses.{NoZero, WordFits, Executes, moved}
use Rattle.aia_plan.specs.Plan.{IsInside}
use Rattle.aia_plan.specs.declared.step.Step.{Step}
use Rattle.aia_plan.specs.declared.step.Step.TheVariants.{Quiet, Word0, Map, Unmap, Remap, TakeP, PutP, TakeE, PutE, Look, TakeT, PutT, Wake}
use Rattle.aia_rehearsal.specs.declared.place.Place as ends
use Rattle.aia_rehearsal.specs.declared.place.Place.TheVariants.{File, Slot}
use Rattle.aia_rehearsal.specs.Rehearsed.{Rehearsed, NotBothSlots, mover_of, at_of, file_of}
use Rattle.aia_rehearsal.specs.Steps.{identities_in, Puts, Makes, delivery_taken, threshold_taken, after, number_at, access_made, hand_for, carried_after}

-- ---- the way between two places

pub way_of : (old new : ends.Place) → NotBothSlots old new → Way
way_of (File p) (File q) two = Across p q
way_of (File p) Slot two = Outward p
way_of Slot (File q) two = Inward q
way_of Slot Slot two = absurd two

pub way_leaves : (old new : ends.Place) (two : NotBothSlots old new) → left (way_of old new two) ≡ file_of old
unfolding way_of
way_leaves (File p) (File q) two = refl
way_leaves (File p) Slot two = refl
way_leaves Slot (File q) two = refl
way_leaves Slot Slot two = absurd two

pub way_leads : (old new : ends.Place) (two : NotBothSlots old new) → led_to (way_of old new two) ≡ file_of new
unfolding way_of
way_leads (File p) (File q) two = refl
way_leads (File p) Slot two = refl
way_leads Slot (File q) two = refl
way_leads Slot Slot two = absurd two

place_is : (slot : ℕ) (place : ends.Place) (file : Option GuestPlace) → file ≡ file_of place → place_at file slot ≡ at_of slot place
place_is slot (File p) file e = ap (λ x. place_at x slot) e
place_is slot Slot file e = ap (λ x. place_at x slot) e

-- ---- the word of an access

no_zero : (k bits : ℕ) → NoZero k (identities_in k bits)
no_zero k bits first = subst (λ x. has_bit (identities_in x bits) 0 ≡ false) (sym first)
    (ap (λ bit. nat_eq bit 1) (bit_at_clear_same w64 bits 0 (omega arith)))

number_fits : (place : ends.Place) (access : Access) (P : Access → Type 0) → P access → IfSome (number_at place access) P
number_fits (File p) access P is = is
number_fits Slot access P is = tt

pub word_fits : (words : ℕ) (r : Rehearsed) (step : Step) (access : Access) → IsInside words step → access_made step r.passage ≡ Some access
    → WordFits access words (hand_for access r.hand).word
word_fits words r step access inside is = subst (λ found. IfSome found Fits) is (by_step step inside)
  where
    Fits : Access → Type 0
    Fits made = WordFits made words (hand_for made r.hand).word

    by_step : (step : Step) → IsInside words step → IfSome (access_made step r.passage) Fits
    by_step Quiet inside = number_fits r.passage.old accesses.TakeDelivery Fits tt
    by_step (TakeP k) inside = inside
    by_step (PutP k) inside = (inside, no_zero k r.hand.pending)
    by_step (TakeE k) inside = inside
    by_step (PutE k) inside = (inside, no_zero k r.hand.enables)
    by_step (Look k) inside = inside
    by_step TakeT inside = number_fits r.passage.old accesses.TakeThreshold Fits tt
    by_step PutT inside = number_fits r.passage.new accesses.PutThreshold Fits tt
    by_step Wake inside = number_fits r.passage.new accesses.PutDelivery Fits tt
    by_step step inside = tt

-- ---- what it makes

module _ (w u : World) (r : Rehearsed) (way : Way) (hand : Hand) (leaves : left way ≡ file_of r.passage.old)
    (leads : led_to way ≡ file_of r.passage.new) where
  -- once the executor made the access, the step is made
  abbrev IsMade : (made carries : Type 0) → Access → Type 0
  IsMade made carries access = Executes access (moved r.passage.who way at_first (hand_for access r.hand)) w u hand → made × carries

  abbrev carrying : Access → Hand → Rehearsed
  carrying access h = record r { hand = carried_after access h r.hand }

  abbrev slot : ℕ
  slot = r.passage.who.found.slot

  old_is : place_at (left way) slot ≡ at_of slot r.passage.old
  old_is = place_is slot r.passage.old (left way) leaves

  new_is : place_at (led_to way) slot ≡ at_of slot r.passage.new
  new_is = place_is slot r.passage.new (led_to way) leads

  -- the numbers
  quiet : (place : ends.Place) → left way ≡ file_of place
      → IfSome (number_at place accesses.TakeDelivery) (λ access. IsMade (Puts w u place Delivery 0)
      (carrying access hand ≡ record r { hand = record r.hand { delivery = delivery_taken w place r.hand.delivery } }) access)
  quiet (File p) e = λ is. (
    subst (λ o. PutsRegister w u (spot_in o) Delivery 0) e is.makes,
    ap (carrying accesses.TakeDelivery) is.carries
        ∙ ap (λ o. record r { hand = record r.hand { delivery = (file_at w.imsic (spot_in o)).delivery } }) e,
  )
  quiet Slot e = tt

  threshold : (place : ends.Place) → left way ≡ file_of place
      → IfSome (number_at place accesses.TakeThreshold) (λ access. IsMade (Puts w u place Threshold 0)
      (carrying access hand ≡ record r { hand = record r.hand { threshold = threshold_taken w place r.hand.threshold } }) access)
  threshold (File p) e = λ is. (
    subst (λ o. PutsRegister w u (spot_in o) Threshold 0) e is.makes,
    ap (carrying accesses.TakeThreshold) is.carries
        ∙ ap (λ o. record r { hand = record r.hand { threshold = (file_at w.imsic (spot_in o)).threshold } }) e,
  )
  threshold Slot e = tt

  putt : (place : ends.Place) → led_to way ≡ file_of place
      → IfSome (number_at place accesses.PutThreshold)
      (λ access. IsMade (Puts w u place Threshold r.hand.threshold) (carrying access hand ≡ r) access)
  putt (File p) e = λ is. (
    subst (λ o. PutsRegister w u (spot_in o) Threshold r.hand.threshold) e is.makes,
    ap (carrying accesses.PutThreshold) is.carries,
  )
  putt Slot e = tt

  wake : (place : ends.Place) → led_to way ≡ file_of place
      → IfSome (number_at place accesses.PutDelivery) (λ access. IsMade (Puts w u place Delivery r.hand.delivery) (carrying access hand ≡ r) access)
  wake (File p) e = λ is. (
    subst (λ o. PutsRegister w u (spot_in o) Delivery r.hand.delivery) e is.makes,
    ap (carrying accesses.PutDelivery) is.carries,
  )
  wake Slot e = tt

  by_step : (step : Step) → IfSome (access_made step r.passage) (λ access. IsMade (Makes step r w u) (carrying access hand ≡ after step r w) access)
  by_step Quiet = quiet r.passage.old leaves
  by_step Word0 = λ is. (
    subst (λ o. u ≡ with_entry_word w r.passage.who.found.vm r.passage.who.found.vcpu 0 (entry_word slot o)) leads is.makes,
    ap (carrying accesses.WriteEntry) is.carries,
  )
  by_step Map = λ is. (subst (λ o. u ≡ with_map w (mover_of r.passage) o) leads is.makes, ap (carrying accesses.Map) is.carries)
  by_step Unmap = λ is. (subst (λ o. u ≡ with_map w (mover_of r.passage) o) leads is.makes, ap (carrying accesses.Map) is.carries)
  by_step Remap = λ is. (subst (λ o. u ≡ with_map w (mover_of r.passage) o) leads is.makes, ap (carrying accesses.Map) is.carries)
  by_step (TakeP k) = λ is. (
    subst (λ a. (k < pending_words w a) × (u ≡ with_pending w a k 0)) old_is (is.within, is.makes),
    ap (carrying (accesses.TakePending k)) is.carries ∙ ap (λ a. record r { hand = record r.hand { pending = pending_at w a k } }) old_is,
  )
  by_step (PutP k) = λ is. (
    subst (λ a. (k < pending_words w a) × (u ≡ with_pending w a k (bit_or (pending_at w a k) (identities_in k r.hand.pending)))) new_is is.makes,
    ap (carrying (accesses.PutPending k)) is.carries,
  )
  by_step (TakeE k) = λ is. (
    subst (λ a. (k < enable_words w a) × (u ≡ with_enable w a k 0)) old_is (is.within, is.makes),
    ap (carrying (accesses.TakeEnables k)) is.carries ∙ ap (λ a. record r { hand = record r.hand { enables = enable_at w a k } }) old_is,
  )
  by_step (PutE k) = λ is. (
    subst (λ a. (k < enable_words w a) × (u ≡ with_enable w a k (identities_in k r.hand.enables))) new_is is.makes,
    ap (carrying (accesses.PutEnables k)) is.carries,
  )
  by_step (Look k) = λ is. (is.makes, ap (carrying (accesses.Look k)) is.carries)
  by_step TakeT = threshold r.passage.old leaves
  by_step PutT = putt r.passage.new leads
  by_step Wake = wake r.passage.new leads
  by_step step = λ is. (is.makes, ap (carrying accesses.Fence) is.carries)

  pub made : (step : Step) (access : Access) → access_made step r.passage ≡ Some access
      → Executes access (moved r.passage.who way at_first (hand_for access r.hand)) w u hand
      → Makes step r w u × (record r { hand = carried_after access hand r.hand } ≡ after step r w)
  made step access is = subst (λ found. IfSome found (λ x. IsMade (Makes step r w u) (carrying x hand ≡ after step r w) x)) is (by_step step)

-- ---- as the executor is called

-- s is the rehearsal r by its parts; the executor was given their files and what is carried
pub step_made : (w u : World) (s r : Rehearsed) → s ≡ r → NotBothSlots s.passage.old s.passage.new
    → (step : Step) (found : Option Access) (access : Access) → found ≡ access_made step r.passage → found ≡ Some access
    → (given hand : Hand) → given ≡ hand_for access r.hand → (old new : Option GuestPlace) → old ≡ file_of s.passage.old → new ≡ file_of s.passage.new
    → ((way : Way) (at : Progress) → left way ≡ old → led_to way ≡ new → Executes access (moved s.passage.who way at given) w u hand)
    → Makes step r w u × (record r { hand = carried_after access hand r.hand } ≡ after step r w)
step_made w u s r same two step found access finds is given hand gives old new is_old is_new executes =
    made w u r way hand (leaves ∙ ap (λ (x : Rehearsed). file_of x.passage.old) same) (leads ∙ ap (λ (x : Rehearsed). file_of x.passage.new) same)
    step access (sym finds ∙ is)
    (subst (λ (x : Rehearsed). Executes access (moved x.passage.who way at_first (hand_for access r.hand)) w u hand) same
    (subst (λ (h : Hand). Executes access (moved s.passage.who way at_first h) w u hand) gives
    (executes way at_first (leaves ∙ sym is_old) (leads ∙ sym is_new))))
  where
    way : Way
    way = way_of s.passage.old s.passage.new two

    leaves : left way ≡ file_of s.passage.old
    leaves = way_leaves s.passage.old s.passage.new two

    leads : led_to way ≡ file_of s.passage.new
    leads = way_leads s.passage.old s.passage.new two
