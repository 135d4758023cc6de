-- A word of bits that is made bit by bit, from the lowest on.
use Rattle.std.proofs.Common.{◌≡◌, ◌≢◌, ℕ, ◌+◌, ◌*◌, ◌%◌, ◌^◌, ◌<◌, ◌≤◌, Bool, true, false, ◌&&◌, ◌||◌, nat_lt, inl, inr, sym, ap, ◌∙◌, arith}
use Rattle.std.specs.Prelude.{bit_or}
use Rattle.std.specs.Int.{is_in_range}
use Rattle.std.proofs.lemmas.Bool.{cases_eq, eq-eqb, ne_eqb, and_right}
use Rattle.std.proofs.lemmas.Bool.Decides.{nat_tests}
use Rattle.aia_word.specs.Sets.{has_bit}
use Rattle.aia_word.proofs.BitLemmas.{has_bit-set, below_next}

pub in_range : (guests at : ℕ) → 1 ≤ at → at ≤ guests → is_in_range 1 guests at ≡ true
in_range guests at some few = grind (arith, nat_tests)

last_one : (at : ℕ) → nat_lt at (at + 1) ≡ true
last_one at = grind (arith, nat_tests)

pub bit_put : (bits at : ℕ) (members : ℕ → Bool) → at < 64 → members at ≡ true → ((j : ℕ) → has_bit bits j ≡ (nat_lt j at && members j)) → (j : ℕ)
    → has_bit (bit_or bits (1 * 2 ^ at % 2 ^ 64)) j ≡ (nat_lt j (at + 1) && members j)
bit_put bits at members low here so_far j = has_bit-set bits at j low ∙ elim (cases_eq j at) [
  | inl e ↦ ap (λ b. b || has_bit bits j) (eq-eqb j at e)
      ∙ sym (ap (λ x. nat_lt x (at + 1) && members x) e ∙ ap (λ b. b && members at) (last_one at) ∙ here)
  | inr ne ↦ ap (λ b. b || has_bit bits j) (ne_eqb j at ne) ∙ so_far j ∙ ap (λ b. b && members j) (below_next j at ne)
]

pub bit_left : (bits at : ℕ) (members : ℕ → Bool) → members at ≡ false → ((j : ℕ) → has_bit bits j ≡ (nat_lt j at && members j)) → (j : ℕ)
    → has_bit bits j ≡ (nat_lt j (at + 1) && members j)
bit_left bits at members out so_far j = so_far j ∙ elim (cases_eq j at) [
  | inl e ↦ and_right _ _ (ap members e ∙ out) ∙ sym (and_right _ _ (ap members e ∙ out))
  | inr ne ↦ ap (λ b. b && members j) (below_next j at ne)
]
