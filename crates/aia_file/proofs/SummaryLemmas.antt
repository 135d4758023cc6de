-- The summary of two sets, and what it keeps where one word of a set changes.
use Rattle.std.proofs.Common.{◌≡◌, ℕ, ◌+◌, ◌*◌, ◌/◌, ◌%◌, ◌^◌, ◌<◌, ◌≤◌, Bool, true, false, ◌&&◌, is_some, nat_eq, inl, inr, refl, sym, ap, ◌∙◌, arith}
use Rattle.std.specs.Int.{w64, trailing_zeros}
use Rattle.std.specs.Prelude.{bit_and, bit_or}
use Rattle.std.proofs.lemmas.Bool.{cases_lt, false≢true}
use Rattle.std.proofs.lemmas.Nat.{and_le_l}
use Rattle.std.proofs.lemmas.Nat.Bits.{bit_at-trailing_zeros}
use Rattle.aia_word.specs.Sets.{has_bit, word_of}
use Rattle.aia_word.proofs.BitLemmas.{has_bit-and, has_bit-zero}
use Rattle.aia_word.proofs.SetLemmas.{has_bit-word_of, word_of-lt}
use Rattle.aia_word.proofs.LeastLemmas.{least_of-none}
use Rattle.aia_word.proofs.SummaryLemmas.{zero_has_none, other_has_some, none_in_word, summarizes, none_summarized, word_filled, other_words}
use Rattle.aia_file.specs.InterruptFile.{is_shared}
use Rattle.aia_file.specs.Summary.{SummarizesBoth, SummarizesBothAllBut, AreIdentities}
use Rattle.aia_regs.specs.declared.limits.TheConstants.{FILE_WORDS}

-- ---- the word of both

-- the identities of word w that are in both sets
abbrev pub both_words : (ℕ → Bool) → (ℕ → Bool) → ℕ → ℕ
both_words pending enabled w = bit_and (word_of pending (64 * w) 64) (word_of enabled (64 * w) 64)

pub bit_of_both : (p e : ℕ → Bool) (w b : ℕ) → b < 64 → has_bit (both_words p e w) b ≡ (p (64 * w + b) && e (64 * w + b))
bit_of_both p e w b low =
    has_bit-and _ _ b ∙ ap (λ x. x && has_bit (word_of e (64 * w) 64) b) (has_bit-word_of p (64 * w) 64 b low)
    ∙ ap (λ x. p (64 * w + b) && x) (has_bit-word_of e (64 * w) 64 b low)

both_small : (p e : ℕ → Bool) (w : ℕ) → both_words p e w < 2 ^ 64
both_small p e w =
    let le = and_le_l (word_of p (64 * w) 64) (word_of e (64 * w) 64) in
    let lt = word_of-lt p (64 * w) 64 in omega (arith, le, lt)

pub none_shared : (p e : ℕ → Bool) (w : ℕ) → both_words p e w ≡ 0 → is_shared p e w ≡ false
none_shared p e w = zero_has_none (both_words p e w) w (λ i. p i && e i) (bit_of_both p e w)

pub some_shared : (p e : ℕ → Bool) (w : ℕ) → (both_words p e w ≡ 0 → ⊥) → is_shared p e w ≡ true
some_shared p e w = other_has_some (both_words p e w) w (λ i. p i && e i) (both_small p e w) (bit_of_both p e w)

-- ---- what a change of word k leaves

pub summary_elsewhere : (summary k : ℕ) (p e q f : ℕ → Bool) → SummarizesBoth summary p e
    → ((i : ℕ) → (i / 64 ≡ k → ⊥) → (q i && f i) ≡ (p i && e i)) → SummarizesBothAllBut k summary q f
summary_elsewhere summary k p e q f = other_words summary k (λ i. p i && e i) (λ i. q i && f i)

pub bit_put : (summary k : ℕ) (p e : ℕ → Bool) → k < 64 → (both_words p e k ≡ 0 → ⊥) → SummarizesBothAllBut k summary p e
    → SummarizesBoth (bit_or summary (1 * 2 ^ k % 2 ^ 64)) p e
bit_put summary k p e small = word_filled summary k (both_words p e k) (λ i. p i && e i) small (both_small p e k) (bit_of_both p e k)

-- ---- what a bit of the summary tells

pub told : (summary : ℕ) (p e : ℕ → Bool) → SummarizesBoth summary p e → (w : ℕ) → w < 64 → has_bit summary w ≡ is_shared p e w
told summary p e = summarizes summary (λ i. p i && e i)

pub not_shared : (p e : ℕ → Bool) (w i : ℕ) → i / 64 ≡ w → is_shared p e w ≡ false → (p i && e i) ≡ false
not_shared p e w i at none = none_in_word (λ j. p j && e j) w i at none

pub shared_below : (p e : ℕ → Bool) (words w : ℕ) → AreIdentities words p → is_shared p e w ≡ true → w < words
shared_below p e words w range shared =
    elim (cases_lt w words) [
      | inl below ↦ below
      | inr past ↦ absurd (false≢true (sym (ap is_some
          (least_of-none (λ i. p i && e i) (64 * w) 64 (λ i low high. outside i (p i) past refl low))) ∙ shared))
    ]
  where
    outside : (i : ℕ) (here : Bool) → words ≤ w → p i ≡ here → 64 * w ≤ i → (here && e i) ≡ false
    outside i false past at low = refl
    outside i true past at low = let inside = range i at in absurd (omega (arith, inside.1))

-- a shared word has a least one
pub both_least : (p e : ℕ → Bool) (w : ℕ) → is_shared p e w ≡ true → (t : ℕ) × (t < 64) × (has_bit (both_words p e w) t ≡ true)
    × ((b : ℕ) → b < t → has_bit (both_words p e w) b ≡ false)
both_least p e w shared =
    let x = both_words p e w in
    elim (cases_lt 0 x) [
      | inl some ↦ let low = bit_at-trailing_zeros w64 x some (both_small p e w) in
          (trailing_zeros w64 x, low.0, ap (λ b. nat_eq b 1) low.1, λ b h. ap (λ y. nat_eq y 1) (low.2 b h))
      | inr other ↦ absurd (false≢true (sym (none_shared p e w (omega arith)) ∙ shared))
    ]

-- ---- no identity is in both sets

pub no_members : (summary : ℕ) (p e : ℕ → Bool) (words : ℕ) → SummarizesBoth summary p e → summary ≡ 0 → words ≤ FILE_WORDS
    → AreIdentities words p → (i : ℕ) → (p i && e i) ≡ false
no_members summary p e words summarizes none few range i =
    elim (cases_lt (i / 64) 64) [
      | inl low ↦ not_shared p e (i / 64) i refl (sym (told summary p e summarizes (i / 64) low) ∙ ap (λ x. has_bit x (i / 64)) none
          ∙ has_bit-zero (i / 64))
      | inr high ↦ outside (p i) refl high
    ]
  where
    outside : (here : Bool) → p i ≡ here → 64 ≤ i / 64 → (here && e i) ≡ false
    outside false at high = refl
    outside true at high = let r = range i at in absurd (omega (arith, r.1))

pub empty_summary : (p e : ℕ → Bool) → ((i : ℕ) → p i ≡ false) → SummarizesBoth 0 p e
empty_summary p e none = none_summarized (λ i. p i && e i) (λ i. ap (λ x. x && e i) (none i))
