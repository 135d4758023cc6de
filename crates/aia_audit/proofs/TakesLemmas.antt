-- The words that a plan takes and puts, as the checker keeps them.
use Rattle.std.proofs.Common.{◌≡◌, ℕ, zero, suc, ◌*◌, ◌%◌, ◌^◌, ◌<◌, ◌≤◌, Bool, true, false, not, ◌&&◌, ◌||◌, nat_eq, [], ◌∷◌, Option, Some, None, inl, inr, refl, sym, ap, ◌∙◌, arith, bit_or, w32}
use Rattle.std.specs.Prelude.{IfSome}
use Rattle.std.specs.Int.{bit_at}
use Rattle.std.proofs.lemmas.Nat.{or_lt}
use Rattle.std.proofs.lemmas.Nat.Bits.{bit_at-lt, bit_at_set_same, bit_at_set_other, same_from_bits_below}
use Rattle.std.proofs.lemmas.Bool.{cases_eq, eq-eqb, ne_eqb}
use Rattle.aia_word.specs.Sets.{has_bit, word_of}
use Rattle.aia_word.proofs.SetLemmas.{has_bit-word_of, word_of-lt, same_bit}
use Rattle.aia_word.proofs.PackedLemmas.{only_it}
use Rattle.aia_plan.specs.Plan.{WrittenPlan}
use Rattle.aia_plan.specs.Rule.{all_below, is_same, are_paired}
use Rattle.aia_plan.specs.declared.step.Step.{Step}
use Rattle.aia_audit.specs.Behind.{may_take, first_put, are_paired_behind}

-- ---- masks of 32 bits

has_bit-set : (n w i : ℕ) → w < 32 → has_bit (bit_or n (1 * 2 ^ w % 2 ^ 32)) i ≡ (nat_eq w i || has_bit n i)
has_bit-set n w i low =
    elim (cases_eq w i) [
      | inl e ↦ ap (λ x. nat_eq x 1) (ap (bit_at (bit_or n (1 * 2 ^ w % 2 ^ 32))) (sym e) ∙ bit_at_set_same w32 n w low)
          ∙ sym (ap (λ b. b || has_bit n i) (eq-eqb w i e))
      | inr ne ↦ ap (λ x. nat_eq x 1) (bit_at_set_other w32 n w low i (λ e. ne (sym e))) ∙ sym (ap (λ b. b || has_bit n i) (ne_eqb w i ne))
    ]

word_bit : (members : ℕ → Bool) (i : ℕ) → i < 32 → has_bit (word_of members 0 32) i ≡ members i
word_bit members i low = has_bit-word_of members 0 32 i low ∙ ap members (omega arith)

one_bit_fits : (w : ℕ) → 1 * 2 ^ w % 2 ^ 32 < 2 ^ 32
one_bit_fits w = omega arith

pub word_set : (members : ℕ → Bool) (w : ℕ) → w < 32
    → bit_or (word_of members 0 32) (1 * 2 ^ w % 2 ^ 32) ≡ word_of (λ v. nat_eq w v || members v) 0 32
word_set members w low =
    same_from_bits_below 32 _ _ (or_lt 32 (word_of members 0 32) (1 * 2 ^ w % 2 ^ 32) (word_of-lt members 0 32) (one_bit_fits w))
    (word_of-lt (λ v. nat_eq w v || members v) 0 32)
    (λ i below. same_bit _ _ (bit_at-lt _ i) (bit_at-lt _ i)
    (has_bit-set (word_of members 0 32) w i low
    ∙ ap (λ b. nat_eq w i || b) (word_bit members i below)
    ∙ sym (word_bit (λ v. nat_eq w v || members v) i below)))

pub may_take_bits : (taken : Option ℕ) (may : Bool) (members : ℕ → Bool) → IfSome taken (λ w. w < 32)
    → may_take taken may (has_bit (word_of members 0 32)) ≡ may_take taken may members
may_take_bits None may members low = refl
may_take_bits (Some w) may members low = ap (λ b. may && not b) (word_bit members w low)

-- ---- all below a number

pub same_below : (p q : ℕ → Bool) (count : ℕ) → ((w : ℕ) → w < count → p w ≡ q w) → all_below p count ≡ all_below q count
same_below p q zero same = refl
same_below p q (suc n) same = ap (λ b. b && all_below p n) (same n (omega arith))
    ∙ ap (λ b. q n && b) (same_below p q n (λ w low. same w (omega arith)))

pub below_fails : (p : ℕ → Bool) (count w : ℕ) → w < count → p w ≡ false → all_below p count ≡ false
below_fails p zero w low fails = absurd (omega arith)
below_fails p (suc n) w low fails = elim (cases_eq w n) [
  | inl same ↦ ap (λ b. b && all_below p n) (ap p (sym same) ∙ fails)
  | inr other ↦ ap (λ b. p n && b) (below_fails p n w (omega arith) fails) ∙ and_false (p n)
]
  where
    and_false : (b : Bool) → (b && false) ≡ false
    and_false true = refl
    and_false false = refl

pub taken_bits : (members : ℕ → Bool) (count : ℕ) → count ≤ 32 → all_below (has_bit (word_of members 0 32)) count ≡ all_below members count
taken_bits members count most = same_below (has_bit (word_of members 0 32)) members count (λ w low. word_bit members w (omega arith))

-- ---- pairs

is_same_with : (c : Option ℕ) → is_same c None ≡ (is_same c None && true)
is_same_with c = only_it (is_same c None)

pub paired_behind : (takes puts : Step → Option ℕ) (c : Option ℕ) (plan : WrittenPlan)
    → are_paired takes puts c plan ≡ (is_same c (first_put puts plan) && are_paired_behind takes puts plan)
paired_behind takes puts c [] = is_same_with c
paired_behind takes puts c (x ∷ later) = ap (λ b. is_same c (puts x) && b) (paired_behind takes puts (takes x) later)
