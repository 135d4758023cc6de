-- A word of a set is joined with another.
use Rattle.std.proofs.Common.{◌≡◌, ℕ, ◌/◌, ◌%◌, ◌<◌, false, ◌||◌, cond, nat_eq, List, length, get_or, inl, inr, refl, sym, ap, ◌∙◌}
use Rattle.std.proofs.Math.ListN.{set}
use Rattle.std.specs.Prelude.{bit_or}
use Rattle.std.proofs.lemmas.Bool.{cases_eq, eq-eqb, ne_eqb, cond-true, cond-false}
use Rattle.aia_word.specs.Sets.{has_bit, is_in}
use Rattle.aia_word.proofs.BitLemmas.{has_bit-or}
use Rattle.aia_word.proofs.SetLemmas.{is_in-set}

pub members_joined : (words : List ℕ) (k v i : ℕ) → k < length words
    → is_in (set words k (bit_or (get_or words k 0) v)) i ≡ cond (nat_eq (i / 64) k) (is_in words i || has_bit v (i % 64)) (is_in words i)
members_joined words k v i h =
    is_in-set words k _ i h ∙ elim (cases_eq (i / 64) k) [
      | inl e ↦ cond-true _ _ _ (eq-eqb _ _ e) ∙ has_bit-or (get_or words k 0) v (i % 64)
          ∙ ap (λ x. has_bit (get_or words x 0) (i % 64) || has_bit v (i % 64)) (sym e) ∙ sym (cond-true _ _ _ (eq-eqb _ _ e))
      | inr ne ↦ cond-false _ _ _ (ne_eqb _ _ ne) ∙ sym (cond-false _ _ _ (ne_eqb _ _ ne))
    ]

-- identity 0 stays out
pub no_zero_joined : (words : List ℕ) (k v : ℕ) → k < length words → (k ≡ 0 → has_bit v 0 ≡ false) → is_in words 0 ≡ false
    → is_in (set words k (bit_or (get_or words k 0) v)) 0 ≡ false
no_zero_joined words k v h bit none =
    members_joined words k v 0 h ∙ elim (cases_eq 0 k) [
      | inl e ↦ cond-true _ _ _ (eq-eqb _ _ e) ∙ rw (none, bit (sym e)) refl
      | inr ne ↦ cond-false _ _ _ (ne_eqb _ _ ne) ∙ none
    ]

-- every other word stays
pub elsewhere_stays : (words : List ℕ) (k v i : ℕ) → k < length words → (i / 64 ≡ k → ⊥) → is_in (set words k v) i ≡ is_in words i
elsewhere_stays words k v i h ne = is_in-set words k v i h ∙ cond-false _ _ _ (ne_eqb _ _ ne)
