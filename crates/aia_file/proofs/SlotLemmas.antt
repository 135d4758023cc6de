-- A word of memory is written: what an MRIF is then, where the word is its own and where it is not.
use Rattle.std.proofs.Common.{◌≡◌, ◌≢◌, ℕ, ◌+◌, ◌*◌, ◌/◌, ◌%◌, ◌^◌, ◌<◌, ◌≤◌, Bool, true, false, ◌&&◌, ◌||◌, cond, nat_eq, nat_le, List, length, get_or, Option, Some, None, inl, inr, ◌⊎◌, refl, sym, ap, ◌∙◌, arith}
use Rattle.std.proofs.Math.ListN.{set}
use Rattle.std.specs.Prelude.{bit_or}
use Rattle.std.proofs.lemmas.Bool.{cases_eq, eq-eqb, ne_eqb, cond-true, cond-false}
use Rattle.std.proofs.lemmas.Bool.Decides.{nat_tests}
use Rattle.std.proofs.lemmas.List.{get_or-set_other}
use Rattle.std.proofs.lemmas.Nat.{shl_whole}
use Rattle.std.proofs.lemmas.Grind.{get_or-set_at}
use Rattle.std.proofs.lemmas.Nat.Bits.{bit_at-pow_same, bit_at-pow_other}
use Rattle.std.specs.Int.{bit_at}
use Rattle.aia_word.specs.Sets.{has_bit}
use Rattle.aia_word.proofs.BitLemmas.{has_bit-or}
use Rattle.aia_word.proofs.SetLemmas.{same_places}
use Rattle.aia_regs.specs.declared.limits.TheConstants.{IDENTITIES, FILE_WORDS}
use Rattle.aia_regs.specs.BitUpdate.{settle, set_after, names}
use Rattle.aia_regs.specs.BitUpdate.BitUpdate.{Ask, Nothing}
use Rattle.aia_regs.specs.Request.{requested}
use Rattle.aia_regs.proofs.RequestLemmas.{requested_in_range}
use Rattle.aia_file.specs.Mrif.{mrif_in, set_at, pending_place, enable_place, after_store}
use Rattle.aia_file.specs.Words.{HasSlot, SameMrif, words_after_store}

pub one_bit : (k : ℕ) → k < 64 → 1 * 2 ^ k % 2 ^ 64 ≡ 2 ^ k
one_bit k low = shl_whole 1 1 k 64 (omega arith) (omega arith) ∙ once (2 ^ k)
  where
    once : (n : ℕ) → 1 * n ≡ n
    once n = omega arith

-- ---- a set whose words stand at places

low_word : (i : ℕ) → nat_le i IDENTITIES ≡ true → i / 64 < FILE_WORDS
low_word i e = let f : i ≤ IDENTITIES = grind (arith, nat_tests) in omega arith

low_identity : (i k : ℕ) → i / 64 ≡ k → k < FILE_WORDS → nat_le i IDENTITIES ≡ true
low_identity i k e low = grind (arith, nat_tests)

-- what word k of it shows
pub place_shows : (place : ℕ → ℕ) (words : List ℕ) (k i : ℕ) → k < FILE_WORDS → i / 64 ≡ k
    → has_bit (get_or words (place k) 0) (i % 64) ≡ set_at place words i
place_shows place words k i low e = ap (λ x. has_bit (get_or words (place x) 0) (i % 64)) (sym e)
    ∙ ap (λ b. b && has_bit (get_or words (place (i / 64)) 0) (i % 64)) (sym (low_identity i k e low))

under : (b x y : Bool) → (b ≡ true → x ≡ y) → (b && x) ≡ (b && y)
under true x y e = e refl
under false x y e = refl

-- word k of it is written
pub written : (place : ℕ → ℕ) (words : List ℕ) (k v i : ℕ) → ((j : ℕ) → place j ≡ place k → j ≡ k) → place k < length words → k < FILE_WORDS
    → set_at place (set words (place k) v) i ≡ cond (nat_eq (i / 64) k) (has_bit v (i % 64)) (set_at place words i)
written place words k v i apart there low =
    elim (cases_eq (i / 64) k) [
      | inl e ↦
          let is : nat_le i IDENTITIES ≡ true = grind (arith, nat_tests) in
          rw is (ap (λ w. has_bit w (i % 64)) (ap (λ x. get_or (set words (place k) v) (place x) 0) e
          ∙ get_or-set_at words (place k) (place k) v 0 refl there)) ∙ sym (cond-true _ _ _ (eq-eqb _ _ e))
      | inr ne ↦ ap (λ w. nat_le i IDENTITIES && has_bit w (i % 64))
          (get_or-set_other words (place k) (place (i / 64)) v 0 (λ e. ne (apart (i / 64) e))) ∙ sym (cond-false _ _ _ (ne_eqb _ _ ne))
    ]

-- a word that is none of its own is written
pub kept : (place : ℕ → ℕ) (words : List ℕ) (p v i : ℕ) → ((j : ℕ) → j < FILE_WORDS → place j ≢ p)
    → set_at place (set words p v) i ≡ set_at place words i
kept place words p v i apart = under (nat_le i IDENTITIES) _ _
    (λ b. ap (λ w. has_bit w (i % 64)) (get_or-set_other words p (place (i / 64)) v 0 (apart (i / 64) (low_word i b))))

-- ---- a slot

pending_joined : (words : List ℕ) (q k v i : ℕ) → pending_place q k < length words → k < FILE_WORDS
    → set_at (pending_place q) (set words (pending_place q k) (bit_or (get_or words (pending_place q k) 0) v)) i ≡ cond (nat_eq (i / 64) k)
    (set_at (pending_place q) words i || has_bit v (i % 64)) (set_at (pending_place q) words i)
pending_joined words q k v i there low =
    written (pending_place q) words k _ i (λ j e. omega (arith, e)) there low ∙ elim (cases_eq (i / 64) k) [
      | inl e ↦
          let is : nat_le i IDENTITIES ≡ true = grind (arith, nat_tests) in
          cond-true _ _ _ (eq-eqb _ _ e) ∙ has_bit-or (get_or words (pending_place q k) 0) v (i % 64)
          ∙ ap (λ x. has_bit (get_or words (pending_place q x) 0) (i % 64) || has_bit v (i % 64)) (sym e)
          ∙ ap (λ b. b && has_bit (get_or words (pending_place q (i / 64)) 0) (i % 64) || has_bit v (i % 64)) (sym is)
          ∙ sym (cond-true _ _ _ (eq-eqb _ _ e))
      | inr ne ↦ cond-false _ _ _ (ne_eqb _ _ ne) ∙ sym (cond-false _ _ _ (ne_eqb _ _ ne))
    ]

pub slot_joined : (words new : List ℕ) (q k v : ℕ) → HasSlot words q → k < FILE_WORDS
    → new ≡ set words (pending_place q k) (bit_or (get_or words (pending_place q k) 0) v) → (i : ℕ)
    → set_at (pending_place q) new i ≡ cond (nat_eq (i / 64) k) (set_at (pending_place q) words i || has_bit v (i % 64))
    (set_at (pending_place q) words i)
slot_joined words new q k v there low e i = rw e (pending_joined words q k v i (omega (arith, there)) low)

-- a store to it makes the identity pending that it names
bit_alone : (k b : ℕ) → k < 64 → has_bit (2 ^ k) b ≡ nat_eq b k
bit_alone k b low =
    elim (cases_eq b k) [
      | inl e ↦ ap (λ x. nat_eq x 1) (ap (bit_at (2 ^ k)) e ∙ bit_at-pow_same k) ∙ sym (eq-eqb b k e)
      | inr ne ↦ ap (λ x. nat_eq x 1) (bit_at-pow_other k b ne) ∙ sym (ne_eqb b k ne)
    ]

pub asked : (words : List ℕ) (q i j : ℕ) → HasSlot words q → i ≤ IDENTITIES
    → set_at (pending_place q) (words_after_store words q (Some i)) j ≡ settle (cond (nat_eq i j) Ask Nothing) (set_at (pending_place q) words j)
asked words q i j there small =
    let low : i / 64 < FILE_WORDS = omega arith in
    pending_joined words q (i / 64) (2 ^ (i % 64)) j (omega (arith, there)) low ∙ elim (cases_eq (j / 64) (i / 64)) [
      | inl e ↦ cond-true _ _ _ (eq-eqb _ _ e) ∙ ap (λ b. set_at (pending_place q) words j || b)
          (bit_alone (i % 64) (j % 64) (omega arith) ∙ same_places i j e) ∙ settled (nat_eq i j) (set_at (pending_place q) words j)
      | inr ne ↦ cond-false _ _ _ (ne_eqb _ _ ne) ∙ ap (λ b. settle (cond b Ask Nothing) (set_at (pending_place q) words j))
          (sym (ne_eqb i j (λ p. ne (ap (λ x. x / 64) (sym p)))))
    ]
  where
    settled : (a b : Bool) → (b || a) ≡ settle (cond a Ask Nothing) b
    settled true true = refl
    settled true false = refl
    settled false true = refl
    settled false false = refl

pub landed : (words new : List ℕ) (q offset value : ℕ) → HasSlot words q → new ≡ words_after_store words q (requested IDENTITIES offset value)
    → SameMrif (mrif_in new q) (after_store offset value (mrif_in words q))
landed words new q offset value there e =
    rw e (go (requested IDENTITIES offset value) (λ i s. (requested_in_range IDENTITIES offset value i s).1))
  where
    go : (o : Option ℕ) → ((i : ℕ) → o ≡ Some i → i ≤ IDENTITIES)
        → SameMrif (mrif_in (words_after_store words q o) q)
        (record (mrif_in words q) { pending = set_after (λ j. cond (names o j) Ask Nothing) (set_at (pending_place q) words) })
    go None small = record { pending = λ j. refl; enabled = λ j. refl }
    go (Some i) small = record {
      pending = λ j. asked words q i j there (small i refl);
      enabled = λ j. kept (enable_place q) words (pending_place q (i / 64)) _ j (λ k low p. omega (arith, p));
    }

-- ---- words elsewhere

-- the MRIF is made of the slot's own words
pub own_words : (old new : List ℕ) (q : ℕ) → ((place : ℕ) → 64 * q ≤ place → place < 64 * (q + 1) → get_or new place 0 ≡ get_or old place 0)
    → mrif_in new q ≡ mrif_in old q
own_words old new q same = λ t. record {
  pending = λ i. under (nat_le i IDENTITIES) _ _
      (λ b. let low = low_word i b in ap (λ w. has_bit w (i % 64)) (same (pending_place q (i / 64)) (omega arith) (omega (arith, low)))) t;
  enabled = λ i. under (nat_le i IDENTITIES) _ _
      (λ b. let low = low_word i b in ap (λ w. has_bit w (i % 64)) (same (enable_place q (i / 64)) (omega arith) (omega (arith, low)))) t;
}

pub other_words : (words : List ℕ) (q place v : ℕ) → (place < 64 * q) ⊎ (64 * (q + 1) ≤ place) → mrif_in (set words place v) q ≡ mrif_in words q
other_words words q place v apart = λ t. record {
  pending = λ i. kept (pending_place q) words place v i (λ k low e. away apart (2 * k) (omega arith) (omega (arith, e))) t;
  enabled = λ i. kept (enable_place q) words place v i (λ k low e. away apart (2 * k + 1) (omega arith) (omega (arith, e))) t;
}
  where
    away : (place < 64 * q) ⊎ (64 * (q + 1) ≤ place) → (j : ℕ) → j < 64 → 64 * q + j ≡ place → ⊥
    away (inl below) j low e = omega (arith, below, low, e)
    away (inr above) j low e = omega (arith, above, low, e)
