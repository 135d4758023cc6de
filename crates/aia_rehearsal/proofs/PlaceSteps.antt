-- A word of one place is written: the sets of that place have it, those of the other place stay,
-- and so do the routes.
use Rattle.std.proofs.Common.{◌≡◌, ℕ, ◌+◌, ◌%◌, ◌<◌, get_or, refl, sym, ap, ◌∙◌, arith}
use Rattle.std.proofs.Math.ListN.{set}
use Rattle.std.proofs.lemmas.List.{get_or-set_other}
use Rattle.aia_word.specs.Sets.{has_bit}
use Rattle.aia_regs.specs.declared.limits.TheConstants.{VCPUS, WORDS_OF_SLOTS}
use Rattle.aia_file.specs.FileState.{shown}
use Rattle.aia_file.specs.Imsic.{file_at}
use Rattle.aia_file.proofs.PlaceLemmas.{kept_elsewhere}
use Rattle.aia_file.specs.Mrif.{pending_place, enable_place}
use Rattle.aia_vcpu.specs.Vms.{Vcpu}
use Rattle.aia_vcpu_places.specs.Places.{of_file, of_slot}
use Rattle.aia_vcpu_places.specs.Steps.{Shows, replaced_by}
use Rattle.aia_fabric_values.specs.World.{World}
use Rattle.aia_fabric_values.specs.Whole.{IsWhole}
use Rattle.aia_fabric_values.specs.Making.{entry_word_place}
use Rattle.aia_fabric_values.specs.Changes.{spot_of, with_word, pending_words, enable_words, pending_at, with_pending, enable_at, with_enable}
use Rattle.aia_move_values.proofs.ViewLemmas.{here, spots_apart, word_replaced, slot_pending-written, slot_enabled-written, has_slot, place_shows}
use Rattle.aia_rehearsal.specs.declared.place.Place as ends
use Rattle.aia_rehearsal.specs.declared.place.Place.TheVariants.{File, Slot}
use Rattle.aia_rehearsal.specs.Rehearsed.{at_of, AreTwo, IsFileThere}
use Rattle.aia_rehearsal.specs.Stands.{sets_at, routes_of}
use Rattle.aia_move_values.proofs.MadeView.{other_way}

pub two_turned : (a b : ends.Place) → AreTwo a b → AreTwo b a
two_turned (File p) (File q) two = other_way p q two
two_turned (File p) Slot two = two
two_turned Slot (File q) two = two
two_turned Slot Slot two = two

module _ (w : World) (slot k v : ℕ) (whole : IsWhole w) (low : slot < VCPUS) where
  -- ---- the place itself

  pub pending_here : (place : ends.Place) → IsFileThere w place → k < pending_words w (at_of slot place)
      → sets_at (with_pending w (at_of slot place) k v) (at_of slot place) ≡ record (sets_at w (at_of slot place))
      { pending = replaced_by k v (sets_at w (at_of slot place)).pending }
  pending_here (File p) there few =
      let was = file_at w.imsic (spot_of p) in
      ap (λ f. of_file (shown f)) (here w (spot_of p) (record was { pending = set was.pending k v }) whole there)
      ∙ ap (λ members. record (of_file (shown was)) { pending = members }) (word_replaced was.pending k v few)
  pending_here Slot there few = ap of_slot (slot_pending-written w.memory slot k v (has_slot w slot whole low) few)

  pub enabled_here : (place : ends.Place) → IsFileThere w place → k < enable_words w (at_of slot place)
      → sets_at (with_enable w (at_of slot place) k v) (at_of slot place) ≡ record (sets_at w (at_of slot place))
      { enabled = replaced_by k v (sets_at w (at_of slot place)).enabled }
  enabled_here (File p) there few =
      let was = file_at w.imsic (spot_of p) in
      ap (λ f. of_file (shown f)) (here w (spot_of p) (record was { enabled = set was.enabled k v }) whole there)
      ∙ ap (λ members. record (of_file (shown was)) { enabled = members }) (word_replaced was.enabled k v few)
  enabled_here Slot there few = ap of_slot (slot_enabled-written w.memory slot k v (has_slot w slot whole low) few)

  pub pending_shown : (place : ends.Place) → k < pending_words w (at_of slot place)
      → Shows (pending_at w (at_of slot place) k) k (sets_at w (at_of slot place)).pending
  pending_shown (File p) few i e = ap (λ x. has_bit (get_or (file_at w.imsic (spot_of p)).pending x 0) (i % 64)) (sym e)
  pending_shown Slot few i e = place_shows (pending_place slot) w.memory k i few e

  pub enabled_shown : (place : ends.Place) → k < enable_words w (at_of slot place)
      → Shows (enable_at w (at_of slot place) k) k (sets_at w (at_of slot place)).enabled
  enabled_shown (File p) few i e = ap (λ x. has_bit (get_or (file_at w.imsic (spot_of p)).enabled x 0) (i % 64)) (sym e)
  enabled_shown Slot few i e = place_shows (enable_place slot) w.memory k i few e

  -- ---- the other place

  pub pending_elsewhere : (a b : ends.Place) → AreTwo a b → IsFileThere w a → IsFileThere w b
      → sets_at (with_pending w (at_of slot a) k v) (at_of slot b) ≡ sets_at w (at_of slot b)
  pending_elsewhere (File p) (File q) two there inside =
      ap (λ f. of_file (shown f)) (kept_elsewhere w.imsic (spot_of p) (spot_of q) _ there inside (spots_apart q p (other_way p q two)))
  pending_elsewhere (File p) Slot two there inside = refl
  pending_elsewhere Slot (File q) two there inside = refl
  pending_elsewhere Slot Slot two there inside = absurd two

  pub enabled_elsewhere : (a b : ends.Place) → AreTwo a b → IsFileThere w a → IsFileThere w b
      → sets_at (with_enable w (at_of slot a) k v) (at_of slot b) ≡ sets_at w (at_of slot b)
  enabled_elsewhere (File p) (File q) two there inside =
      ap (λ f. of_file (shown f)) (kept_elsewhere w.imsic (spot_of p) (spot_of q) _ there inside (spots_apart q p (other_way p q two)))
  enabled_elsewhere (File p) Slot two there inside = refl
  enabled_elsewhere Slot (File q) two there inside = refl
  enabled_elsewhere Slot Slot two there inside = absurd two

  -- ---- the routes

  word_elsewhere : (g : Vcpu) (place : ℕ) → place < WORDS_OF_SLOTS → routes_of (with_word w place v) g ≡ routes_of w g
  word_elsewhere g place few =
      let first = get_or-set_other w.memory place (entry_word_place g.vm g.vcpu) v 0 (λ e. omega (arith, e, few)) in
      let second = get_or-set_other w.memory place (entry_word_place g.vm g.vcpu + 1) v 0 (λ e. omega (arith, e, few)) in
      λ t. record (routes_of w g) { word0 = first t; word1 = second t }

  pub pending_routes : (g : Vcpu) (place : ends.Place) → k < pending_words w (at_of slot place)
      → routes_of (with_pending w (at_of slot place) k v) g ≡ routes_of w g
  pending_routes g (File p) few = refl
  pending_routes g Slot few = word_elsewhere g (pending_place slot k) (omega (arith, low, few))

  pub enabled_routes : (g : Vcpu) (place : ends.Place) → k < enable_words w (at_of slot place)
      → routes_of (with_enable w (at_of slot place) k v) g ≡ routes_of w g
  enabled_routes g (File p) few = refl
  enabled_routes g Slot few = word_elsewhere g (enable_place slot k) (omega (arith, low, few))
