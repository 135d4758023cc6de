-- A claim at a slot clears the one bit of the identity on top.
use Rattle.std.proofs.Common.{◌≡◌, ◌≢◌, ℕ, ◌/◌, ◌%◌, ◌<◌, ◌≤◌, Bool, true, false, ◌&&◌, not, nat_eq, List, get_or, Some, inl, inr, refl, sym, ap, ◌∙◌, arith}
use Rattle.std.specs.Prelude.{bit_and}
use Rattle.std.specs.Int.{bit_not, w64, is_in_range}
use Rattle.std.proofs.lemmas.Bool.{cases_eq, eq-eqb, ne_eqb, cond-true, cond-false}
use Rattle.std.proofs.lemmas.Bool.Decides.{nat_tests}
use Rattle.aia_word.specs.Sets.{has_bit}
use Rattle.aia_word.specs.Top.{top_value, lets_through}
use Rattle.aia_word.proofs.BitLemmas.{has_bit-clear}
use Rattle.aia_word.proofs.LeastLemmas.{least_of_is}
use Rattle.aia_word.proofs.SetLemmas.{same_places}
use Rattle.aia_regs.specs.declared.limits.TheConstants.{IDENTITIES, FILE_WORDS}
use Rattle.aia_file.specs.InterruptFile.{SameFile, is_greatest_identity, top_of, claimed}
use Rattle.aia_file.proofs.TopLemmas.{top_shown, pending_claimed}
use Rattle.aia_file.specs.Mrif.{mrif_in, set_at, pending_place, enable_place}
use Rattle.aia_file.specs.Words.{HasSlot, words_after_claim}
use Rattle.aia_file.specs.SlotFile.{slot_file, KeepsAllElse}
use Rattle.aia_file.proofs.SlotLemmas as slots
use Rattle.aia_file.proofs.SlotLemmas.{place_shows}
use Rattle.aia_file.proofs.SizeLemmas.{few_identities}
use Rattle.aia_mrif.proofs.AccessLemmas.{set_apart, one_word_kept}

-- the identity on top is one of the file's
pub top_here : (words : List ℕ) (q n threshold top : ℕ) → is_greatest_identity n ≡ true
    → top ≡ top_value (top_of (slot_file n threshold (mrif_in words q))) → top ≢ 0
    → (top_of (slot_file n threshold (mrif_in words q)) ≡ Some (top % 65536)) × (is_in_range 1 n (top % 65536) ≡ true) × (top % 65536 ≤ IDENTITIES)
top_here words q n threshold top greatest is some =
    let file = slot_file n threshold (mrif_in words q) in
    let few = few_identities n greatest in
    let named = top_shown n file.pending file.enabled threshold top (top_of file) (omega arith) refl is some in
    let least = least_of_is (λ i. file.pending i && file.enabled i && lets_through threshold i) 1 n (top % 65536) named.0 in
    (named.0, inside (top % 65536) least.0 named.1, omega (arith, few, named.1))
  where
    inside : (i : ℕ) → 1 ≤ i → i ≤ n → is_in_range 1 n i ≡ true
    inside i low high = grind (arith, nat_tests)

module _ (words : List ℕ) (q i : ℕ) (there : HasSlot words q) (small : i ≤ IDENTITIES) where
  pub pending_out : (j : ℕ) → set_at (pending_place q) (words_after_claim words q (Some i)) j ≡ (not (nat_eq i j) && set_at (pending_place q) words j)
  pending_out j =
      let word = get_or words (pending_place q (i / 64)) 0 in
      let low : i / 64 < FILE_WORDS = omega arith in
      slots.written (pending_place q) words (i / 64) _ j (λ k e. omega (arith, e)) (omega (arith, there)) low ∙ elim (cases_eq (j / 64) (i / 64)) [
        | inl e ↦
            cond-true _ _ _ (eq-eqb _ _ e) ∙ ap (λ x. has_bit (bit_and word (bit_not w64 x)) (j % 64))
            (sym (slots.one_bit (i % 64) (omega arith))) ∙ has_bit-clear word (i % 64) (j % 64) (omega arith) (omega arith)
            ∙ ap (λ b. not b && has_bit word (j % 64)) (same_places i j e)
            ∙ ap (λ b. not (nat_eq i j) && b) (place_shows (pending_place q) words (i / 64) j low e)
        | inr ne ↦ cond-false _ _ _ (ne_eqb _ _ ne) ∙ sym
            (ap (λ b. not b && set_at (pending_place q) words j) (ne_eqb i j (λ p. ne (ap (λ x. x / 64) (sym p)))))
      ]

  pub claim_done : (n threshold : ℕ) → top_of (slot_file n threshold (mrif_in words q)) ≡ Some i
      → SameFile (slot_file n threshold (mrif_in (words_after_claim words q (Some i)) q)) (claimed (slot_file n threshold (mrif_in words q)))
  claim_done n threshold top = record {
    n = refl;
    pending = λ j. ap (λ b. is_in_range 1 n j && b) (pending_out j)
        ∙ inward (is_in_range 1 n j) (not (nat_eq i j)) (set_at (pending_place q) words j)
        ∙ sym (pending_claimed _ i j (is_in_range 1 n j && set_at (pending_place q) words j) top);
    enabled = λ j. set_apart (enable_place q) words (pending_place q (i / 64)) _ n j (λ k low e. omega (arith, e));
    threshold = refl;
    delivery = refl;
  }
    where
      inward : (r x y : Bool) → (r && (x && y)) ≡ (x && (r && y))
      inward true x y = refl
      inward false true y = refl
      inward false false y = refl

  pub claim_keeps : (n : ℕ) → is_in_range 1 n i ≡ true → KeepsAllElse words (words_after_claim words q (Some i)) q n
  claim_keeps n inside = one_word_kept words q n (pending_place q (i / 64)) _ (omega (arith, small)) (omega (arith, small)) (λ j outside. (
    pending_out j ∙ ap (λ b. not b && set_at (pending_place q) words j)
        (ne_eqb i j (λ e. apart (is_in_range 1 n j) (ap (is_in_range 1 n) (sym e) ∙ inside) outside)),
    slots.kept (enable_place q) words (pending_place q (i / 64)) _ j (λ k low e. omega (arith, e)),
  ))
    where
      apart : (b : Bool) → b ≡ true → b ≡ false → ⊥
      apart true e f = cc
      apart false e f = cc
