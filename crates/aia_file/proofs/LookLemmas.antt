-- The identity on top, found by a summary and by one word of both sets.
use Rattle.std.proofs.Common.{◌≡◌, ℕ, ◌+◌, ◌-◌, ◌*◌, ◌/◌, ◌<◌, ◌≤◌, Bool, true, false, ◌&&◌, Option, Some, None, inl, inr, refl, sym, ap, ◌∙◌, arith}
use Rattle.std.proofs.lemmas.Bool.{cases_lt, and_left, and_right, and_from, and_parts}
use Rattle.aia_word.specs.Sets.{has_bit, least_of}
use Rattle.aia_word.specs.Top.{top_identity, lets_through}
use Rattle.aia_word.proofs.LeastLemmas.{least_of-found, least_of-none}
use Rattle.aia_file.specs.InterruptFile.{is_shared}
use Rattle.aia_file.specs.Summary.{SummarizesBoth, AreIdentities}
use Rattle.aia_file.proofs.SummaryLemmas.{both_words, bit_of_both, both_least, not_shared, told}
use Rattle.aia_file.proofs.TopLemmas.{top_found, top_held_back, held_back_above}

-- ---- the first identity of a word that the threshold lets through

abbrev pub first_through : ℕ → ℕ → ℕ → Option ℕ
first_through k live threshold = least_of (λ i. has_bit live (i - 64 * k) && lets_through threshold i) (64 * k) 64

pub first_found : (k live threshold bit : ℕ) → bit < 64 → has_bit live bit ≡ true → ((b : ℕ) → b < bit → has_bit live b ≡ false)
    → lets_through threshold (64 * k + bit) ≡ true → Some (64 * k + bit) ≡ first_through k live threshold
first_found k live threshold bit small here below passed =
    let at : 64 * k + bit - 64 * k ≡ bit = omega arith in
    sym (least_of-found (λ i. has_bit live (i - 64 * k) && lets_through threshold i) (64 * k) 64 (64 * k + bit) (omega arith) (omega arith)
    (and_from _ _ (ap (has_bit live) at ∙ here) passed) (λ i low high. and_left _ (lets_through threshold i) (below (i - 64 * k) (omega arith))))

pub first_held_back : (k live threshold bit : ℕ) → bit < 64 → ((b : ℕ) → b < bit → has_bit live b ≡ false)
    → lets_through threshold (64 * k + bit) ≡ false → ◌≡◌ {A = Option ℕ} None (first_through k live threshold)
first_held_back k live threshold bit small below held =
    sym (least_of-none (λ i. has_bit live (i - 64 * k) && lets_through threshold i) (64 * k) 64 (λ i low high. elim (cases_lt i (64 * k + bit)) [
      | inl p ↦ and_left _ (lets_through threshold i) (below (i - 64 * k) (omega arith))
      | inr p ↦ and_right (has_bit live (i - 64 * k)) (lets_through threshold i) (held_back_above threshold (64 * k + bit) i p held)
    ]))

pub first_none : (k live threshold : ℕ) → ((b : ℕ) → has_bit live b ≡ false) → ◌≡◌ {A = Option ℕ} None (first_through k live threshold)
first_none k live threshold none =
    sym (least_of-none (λ i. has_bit live (i - 64 * k) && lets_through threshold i) (64 * k) 64
    (λ i low high. and_left _ (lets_through threshold i) (none (i - 64 * k))))

-- ---- it is the identity on top, where word k is the first that has one in both sets

pub none_below : (summary : ℕ) (p e : ℕ → Bool) (k : ℕ) → k < 64 → SummarizesBoth summary p e → ((w : ℕ) → w < k → has_bit summary w ≡ false)
    → (i : ℕ) → i < 64 * k → (p i && e i) ≡ false
none_below summary p e k small summarizes below i low =
    not_shared p e (i / 64) i refl (sym (told summary p e summarizes (i / 64) (omega arith)) ∙ below (i / 64) (omega arith))

pub first_is_top : (p e : ℕ → Bool) (words k threshold : ℕ) → AreIdentities words p → is_shared p e k ≡ true
    → ((i : ℕ) → i < 64 * k → (p i && e i) ≡ false) → first_through k (both_words p e k) threshold ≡ top_identity (64 * words - 1) p e threshold
first_is_top p e words k threshold range shared none =
    let least = both_least p e k shared in
    let t = least.0 in
    let here : (p (64 * k + t) && e (64 * k + t)) ≡ true = sym (bit_of_both p e k t least.1) ∙ least.2 in
    let before : (i : ℕ) → i < 64 * k + t → (p i && e i) ≡ false = λ i low. elim (cases_lt i (64 * k)) [
      | inl p ↦ none i p
      | inr q ↦
          let at : 64 * k + (i - 64 * k) ≡ i = omega arith in
          ap (λ j. p j && e j) (sym at) ∙ sym (bit_of_both p e k (i - 64 * k) (omega (arith, least.1))) ∙ least.3 (i - 64 * k) (omega arith)
    ] in
    let inside = range (64 * k + t) (and_parts _ _ here).0 in
    by_threshold (lets_through threshold (64 * k + t)) t refl least.1 least.2 least.3 here before inside.0 inside.1
  where
    by_threshold : (passes : Bool) → (t : ℕ) → lets_through threshold (64 * k + t) ≡ passes → t < 64 → has_bit (both_words p e k) t ≡ true
        → ((b : ℕ) → b < t → has_bit (both_words p e k) b ≡ false) → (p (64 * k + t) && e (64 * k + t)) ≡ true
        → ((i : ℕ) → i < 64 * k + t → (p i && e i) ≡ false) → 1 ≤ 64 * k + t → 64 * k + t < 64 * words
        → first_through k (both_words p e k) threshold ≡ top_identity (64 * words - 1) p e threshold
    by_threshold true t passes small bit below here before some inside =
        sym (first_found k (both_words p e k) threshold t small bit below passes)
        ∙ top_found (64 * words - 1) p e threshold (64 * k + t) some (omega arith) here before passes
    by_threshold false t passes small bit below here before some inside =
        sym (first_held_back k (both_words p e k) threshold t small below passes)
        ∙ top_held_back (64 * words - 1) p e threshold (64 * k + t) before passes
