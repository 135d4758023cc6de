-- What a take and a put make of two places, of what is carried, and of the state for which they
-- stand.
use Rattle.std.proofs.Common.{◌≡◌, ℕ, zero, suc, ◌+◌, ◌*◌, ◌/◌, ◌%◌, ◌<◌, Bool, true, false, not, ◌&&◌, ◌||◌, nat_eq, inl, inr, refl, sym, ap, ◌∙◌, arith}
use Rattle.std.specs.Prelude.{bit_or}
use Rattle.std.proofs.lemmas.Bool.{cases_eq, eq-eqb, ne_eqb, cond-true, cond-false}
use Rattle.std.proofs.lemmas.Bool.Decides.{nat_tests}
use Rattle.aia_word.specs.Sets.{has_bit}
use Rattle.aia_word.proofs.BitLemmas.{has_bit-zero, has_bit-or, has_bit-clear}
use Rattle.aia_vcpu_places.specs.Places.{TwoSets}
use Rattle.aia_vcpu_places.specs.Steps.{Shows, replaced_by}
use Rattle.aia_plan.specs.declared.step.Step.TheVariants.{TakeP, PutP, TakeE, PutE}
use Rattle.aia_plan.specs.Transit.{Transit, is_identity, without_word, of_word, stepped}
use Rattle.aia_rehearsal.specs.Rehearsed.{Carried}
use Rattle.aia_rehearsal.specs.Steps.{identities_in}
use Rattle.aia_rehearsal.specs.Stands.{SetsStand}

-- ---- words

-- a word that shows one of a set
shown_bit : (x k bit : ℕ) (members : ℕ → Bool) → Shows x k members → bit < 64 → members (64 * k + bit) ≡ has_bit x bit
shown_bit x k bit members shows low =
    let word : (64 * k + bit) / 64 ≡ k = omega (arith, low) in
    let rest : (64 * k + bit) % 64 ≡ bit = omega (arith, low) in
    sym (shows (64 * k + bit) word) ∙ ap (has_bit x) rest

identity_at : (k i : ℕ) → i / 64 ≡ k → 64 * k + i % 64 ≡ i
identity_at k i e = omega (arith, e)

first_word : (bits bit : ℕ) → bit < 64 → has_bit (identities_in 0 bits) bit ≡ (is_identity bit && has_bit bits bit)
first_word bits bit low = has_bit-clear bits 0 bit (omega arith) low ∙ ap (λ b. b && has_bit bits bit) (by_number bit)
  where
    by_number : (n : ℕ) → not (nat_eq n 0) ≡ is_identity n
    by_number n = grind (arith, nat_tests)

identities_shown : (k bits bit : ℕ) → bit < 64 → has_bit (identities_in k bits) bit ≡ (is_identity (64 * k + bit) && has_bit bits bit)
identities_shown zero bits bit low = let same : bit ≡ 64 * 0 + bit = omega arith in first_word bits bit low
    ∙ ap (λ n. is_identity n && has_bit bits bit) same
identities_shown (suc k) bits bit low = let some : is_identity (64 * suc k + bit) ≡ true = grind (arith, nat_tests) in
    ap (λ n. has_bit n bit) (cond-false _ _ _ (ne_eqb (suc k) 0 (λ e. omega (arith, e)))) ∙ ap (λ b. b && has_bit bits bit) (sym some)

-- ---- one word of a set

-- it is taken
word_out : (k i : ℕ) (was members : ℕ → Bool) → was i ≡ members i → without_word k was i ≡ replaced_by k 0 members i
word_out k i was members same = elim (cases_eq (i / 64) k) [
  | inl e ↦ ap (λ b. not b && was i) (eq-eqb k (i / 64) (sym e)) ∙ sym (has_bit-zero (i % 64)) ∙ sym (cond-true _ _ _ (eq-eqb (i / 64) k e))
  | inr ne ↦ ap (λ b. not b && was i) (ne_eqb k (i / 64) (λ e. ne (sym e))) ∙ same ∙ sym (cond-false _ _ _ (ne_eqb (i / 64) k ne))
]

-- identities are added to it
word_in : (k i word bits : ℕ) (was members carried : ℕ → Bool) → was i ≡ members i → Shows word k members → carried (i % 64) ≡ has_bit bits (i % 64)
    → (was i || of_word k carried i) ≡ replaced_by k (bit_or word (identities_in k bits)) members i
word_in k i word bits was members carried same shows bit = elim (cases_eq (i / 64) k) [
  | inl e ↦
      let low : i % 64 < 64 = omega arith in
      let added : (is_identity i && carried (i % 64)) ≡ has_bit (identities_in k bits) (i % 64) =
      ap (λ b. is_identity i && b) bit ∙ ap (λ n. is_identity n && has_bit bits (i % 64)) (sym (identity_at k i e))
      ∙ sym (identities_shown k bits (i % 64) low) in
      ap (λ b. was i || (b && (is_identity i && carried (i % 64)))) (eq-eqb k (i / 64) (sym e)) ∙ ap (λ b. was i || b) added
      ∙ ap (λ b. b || has_bit (identities_in k bits) (i % 64)) (same ∙ sym (shows i e)) ∙ sym (has_bit-or word (identities_in k bits) (i % 64))
      ∙ sym (cond-true _ _ _ (eq-eqb (i / 64) k e))
  | inr ne ↦ ap (λ b. was i || (b && (is_identity i && carried (i % 64)))) (ne_eqb k (i / 64) (λ e. ne (sym e))) ∙ or_none (was i) ∙ same
      ∙ sym (cond-false _ _ _ (ne_eqb (i / 64) k ne))
]
  where
    or_none : (b : Bool) → (b || false) ≡ b
    or_none true = refl
    or_none false = refl

-- identities replace it
word_put : (k i bits : ℕ) (was members carried : ℕ → Bool) → was i ≡ members i → carried (i % 64) ≡ has_bit bits (i % 64)
    → (without_word k was i || of_word k carried i) ≡ replaced_by k (identities_in k bits) members i
word_put k i bits was members carried same bit = elim (cases_eq (i / 64) k) [
  | inl e ↦
      let low : i % 64 < 64 = omega arith in
      let added : (is_identity i && carried (i % 64)) ≡ has_bit (identities_in k bits) (i % 64) =
      ap (λ b. is_identity i && b) bit ∙ ap (λ n. is_identity n && has_bit bits (i % 64)) (sym (identity_at k i e))
      ∙ sym (identities_shown k bits (i % 64) low) in
      ap (λ b. (not b && was i) || (b && (is_identity i && carried (i % 64)))) (eq-eqb k (i / 64) (sym e)) ∙ added
      ∙ sym (cond-true _ _ _ (eq-eqb (i / 64) k e))
  | inr ne ↦ ap (λ b. (not b && was i) || (b && (is_identity i && carried (i % 64)))) (ne_eqb k (i / 64) (λ e. ne (sym e))) ∙ or_none (was i)
      ∙ same ∙ sym (cond-false _ _ _ (ne_eqb (i / 64) k ne))
]
  where
    or_none : (b : Bool) → (b || false) ≡ b
    or_none true = refl
    or_none false = refl

-- ---- both places, and what is carried

module _ (words k : ℕ) (old new : TwoSets) (hand : Carried) (z : Transit) (low : k < words) (s : SetsStand words old new hand z) where
  inside : (bit : ℕ) → bit < 64 → (64 * k + bit) / 64 < words
  inside bit few = omega (arith, low, few)

  pub pending_taken : (x : ℕ) → Shows x k old.pending
      → SetsStand words (record old { pending = replaced_by k 0 old.pending }) new (record hand { pending = x }) (stepped (TakeP k) z)
  pending_taken x shows = record {
    old_pending = λ i few. word_out k i z.old_pending old.pending (s.old_pending i few);
    old_enabled = s.old_enabled;
    new_pending = s.new_pending;
    new_enabled = s.new_enabled;
    carried_pending = λ bit few. s.old_pending (64 * k + bit) (inside bit few) ∙ shown_bit x k bit old.pending shows few;
    carried_enables = s.carried_enables;
  }

  pub enables_taken : (x : ℕ) → Shows x k old.enabled
      → SetsStand words (record old { enabled = replaced_by k 0 old.enabled }) new (record hand { enables = x }) (stepped (TakeE k) z)
  enables_taken x shows = record {
    old_pending = s.old_pending;
    old_enabled = λ i few. word_out k i z.old_enabled old.enabled (s.old_enabled i few);
    new_pending = s.new_pending;
    new_enabled = s.new_enabled;
    carried_pending = s.carried_pending;
    carried_enables = λ bit few. s.old_enabled (64 * k + bit) (inside bit few) ∙ shown_bit x k bit old.enabled shows few;
  }

  pub pending_put : (word : ℕ) → Shows word k new.pending
      → SetsStand words old (record new { pending = replaced_by k (bit_or word (identities_in k hand.pending)) new.pending })
      (record hand { pending = 0 }) (stepped (PutP k) z)
  pending_put word shows = record {
    old_pending = s.old_pending;
    old_enabled = s.old_enabled;
    new_pending = λ i few. word_in k i word hand.pending z.new_pending new.pending z.carried_pending (s.new_pending i few) shows
        (s.carried_pending (i % 64) (omega arith));
    new_enabled = s.new_enabled;
    carried_pending = λ bit few. sym (has_bit-zero bit);
    carried_enables = s.carried_enables;
  }

  pub enables_put : SetsStand words old (record new { enabled = replaced_by k (identities_in k hand.enables) new.enabled })
      (record hand { enables = 0 }) (stepped (PutE k) z)
  enables_put = record {
    old_pending = s.old_pending;
    old_enabled = s.old_enabled;
    new_pending = s.new_pending;
    new_enabled = λ i few. word_put k i hand.enables z.new_enabled new.enabled z.carried_enables (s.new_enabled i few)
        (s.carried_enables (i % 64) (omega arith));
    carried_pending = s.carried_pending;
    carried_enables = λ bit few. sym (has_bit-zero bit);
  }
