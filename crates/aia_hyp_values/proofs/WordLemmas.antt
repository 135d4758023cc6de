-- The words of a slot, as its file shows them.
use Rattle.std.proofs.Common.{◌≡◌, ℕ, ◌+◌, ◌*◌, ◌/◌, ◌%◌, ◌^◌, ◌<◌, Bool, false, not, ◌&&◌, nat_eq, bit_and, get_or, List, Option, Some, None, inl, inr, refl, sym, ap, ◌∙◌, arith}
use Rattle.std.specs.Prelude.{is_some}
use Rattle.std.specs.Int.{is_in_range}
use Rattle.std.proofs.lemmas.Bool.{cases_Bool, cases_eq, false≢true}
use Rattle.std.proofs.lemmas.Bool.Decides.{nat_tests}
use Rattle.aia_word.specs.Sets.{has_bit, word_of, least_of}
use Rattle.aia_word.proofs.SetLemmas.{word_from_bits}
use Rattle.aia_word.proofs.LeastLemmas.{least_of_is, least_of_is_none}
use Rattle.aia_regs.specs.declared.limits.TheConstants.{VCPUS, FILE_WORDS}
use Rattle.aia_file.specs.InterruptFile.{is_live}
use Rattle.aia_file.specs.Mrif.{set_at, pending_place, enable_place}
use Rattle.aia_file.proofs.SlotLemmas.{place_shows}
use Rattle.aia_vcpu_places.proofs.LookLemmas.{meets-and}
use Rattle.aia_fabric_values.specs.World.{World}
use Rattle.aia_fabric_values.specs.Whole.{IsWhole}
use Rattle.aia_fabric_values.specs.SlotAccess.{file_of_slot}
use Rattle.aia_model.specs.declared.part.Part.TheVariants as parts

-- the words of a set that files have show no identity that they don't have
pub shown_alone : (bits : ℕ → Bool) (n words : ℕ) → n + 1 ≡ 64 * words → bits 0 ≡ false → (i : ℕ) → i / 64 < words
    → bits i ≡ (is_in_range 1 n i && bits i)
shown_alone bits n words all none i low = elim (cases_Bool (is_in_range 1 n i)) [
  | inl e ↦ sym (ap (λ b. b && bits i) e)
  | inr ne ↦ elim (cases_eq i 0) [
    | inl z ↦ ap bits z ∙ none ∙ sym (ap (λ b. b && bits i) ne)
    | inr some ↦
        let past : n < i = grind (arith, nat_tests) in
        absurd (omega (arith, past, low, all))
  ]
]

-- both words k of slot q, as its file shows them
pub record WordSeen (w : World) (q k p e : ℕ) : Type 0 where
  pub pending : (b : ℕ) → b < 64 → has_bit p b ≡ (file_of_slot w q 0).pending (64 * k + b)
  pub enabled : (b : ℕ) → b < 64 → has_bit e b ≡ (file_of_slot w q 0).enabled (64 * k + b)
  pub pending_fits : p < 2 ^ 64
  pub enable_fits : e < 2 ^ 64

bit_seen : (words : List ℕ) (place : ℕ → ℕ) (n k v b : ℕ) → n + 1 ≡ 64 * ((n + 1) / 64) → k < (n + 1) / 64 → k < FILE_WORDS
    → set_at place words 0 ≡ false → v ≡ get_or words (place k) 0 → b < 64
    → has_bit v b ≡ (is_in_range 1 n (64 * k + b) && set_at place words (64 * k + b))
bit_seen words place n k v b all low few none is below =
    let same : b ≡ (64 * k + b) % 64 = omega arith in
    let at : (64 * k + b) / 64 ≡ k = omega arith in
    (λ j. has_bit (is j) (same j)) ∙ place_shows place words k (64 * k + b) few at
    ∙ shown_alone (set_at place words) n ((n + 1) / 64) all none (64 * k + b) (omega (arith, at, low))

pub word_seen : (w : World) (q k p e : ℕ) → IsWhole w → q < VCPUS → w.n + 1 ≡ 64 * ((w.n + 1) / 64) → k < (w.n + 1) / 64 → k < FILE_WORDS
    → p ≡ get_or w.memory (pending_place q k) 0 → e ≡ get_or w.memory (enable_place q k) 0 → p < 2 ^ 64 → e < 2 ^ 64 → WordSeen w q k p e
word_seen w q k p e whole few all low word pending enabled pending_fits enable_fits =
    record {
      pending = λ b below. bit_seen w.memory (pending_place q) w.n k p b all low word (whole.no_pending_zero q few) pending below;
      enabled = λ b below. bit_seen w.memory (enable_place q) w.n k e b all low word (whole.no_enabled_zero q few) enabled below;
      pending_fits = pending_fits;
      enable_fits = enable_fits;
    }

pub word_is_part : (w : World) (q k p e : ℕ) → WordSeen w q k p e
    → parts.Word k p e ≡ parts.Word k (word_of (file_of_slot w q 0).pending (64 * k) 64) (word_of (file_of_slot w q 0).enabled (64 * k) 64)
word_is_part w q k p e seen =
    let pending = word_from_bits (file_of_slot w q 0).pending (64 * k) p seen.pending_fits seen.pending in
    let enabled = word_from_bits (file_of_slot w q 0).enabled (64 * k) e seen.enable_fits seen.enabled in
    λ j. parts.Word k (pending j) (enabled j)

pub live_word : (w : World) (q k p e : ℕ) → WordSeen w q k p e → not (nat_eq (bit_and p e) 0) ≡ is_live (file_of_slot w q 0) k
live_word w q k p e seen = meets-and p e seen.pending_fits
    ∙ by_found (least_of (λ b. has_bit p b && has_bit e b) 0 64)
    (least_of (λ i. (file_of_slot w q 0).pending i && (file_of_slot w q 0).enabled i) (64 * k) 64) refl refl
  where
    both : (b : ℕ) → b < 64 → (has_bit p b && has_bit e b) ≡ ((file_of_slot w q 0).pending (64 * k + b) && (file_of_slot w q 0).enabled (64 * k + b))
    both b low = λ j. seen.pending b low j && seen.enabled b low j

    by_found : (x y : Option ℕ) → least_of (λ b. has_bit p b && has_bit e b) 0 64 ≡ x
        → least_of (λ i. (file_of_slot w q 0).pending i && (file_of_slot w q 0).enabled i) (64 * k) 64 ≡ y → is_some x ≡ is_some y
    by_found (Some b) (Some i) f g = refl
    by_found None None f g = refl
    by_found (Some b) None f g =
        let at = least_of_is (λ b. has_bit p b && has_bit e b) 0 64 b f in
        let low : b < 64 = omega (arith, at.1) in
        absurd (false≢true (sym (least_of_is_none (λ i. (file_of_slot w q 0).pending i && (file_of_slot w q 0).enabled i) (64 * k) 64 g
        (64 * k + b) (omega arith) (omega (arith, low))) ∙ sym (both b low) ∙ at.2))
    by_found None (Some i) f g =
        let at = least_of_is (λ i. (file_of_slot w q 0).pending i && (file_of_slot w q 0).enabled i) (64 * k) 64 i g in
        let low : i % 64 < 64 = omega arith in
        let same : 64 * k + i % 64 ≡ i = omega (arith, at.0, at.1) in
        absurd (false≢true (sym (least_of_is_none (λ b. has_bit p b && has_bit e b) 0 64 f (i % 64) (omega arith) (omega arith))
        ∙ both (i % 64) low ∙ ap (λ j. (file_of_slot w q 0).pending j && (file_of_slot w q 0).enabled j) same ∙ at.2))
