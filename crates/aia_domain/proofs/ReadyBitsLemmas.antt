-- The summary of a set of sources in words of bits, and what it keeps where one source changes.
use Rattle.std.proofs.Common.{◌≡◌, ℕ, ◌+◌, ◌/◌, ◌^◌, ◌<◌, Bool, false, cond, nat_eq, List, length, inl, inr, refl, sym, ap, ◌∙◌, arith}
use Rattle.std.proofs.lemmas.Bool.{cases_lt, ne_eqb}
use Rattle.aia_word.specs.Sets.{has_bit, is_in, word_of}
use Rattle.aia_word.specs.Summary.{Summarizes, SummarizesAllBut}
use Rattle.aia_word.proofs.BitLemmas.{has_bit-zero}
use Rattle.aia_word.proofs.SetLemmas.{word_from_bits, is_in-past, zero_word}
use Rattle.aia_word.proofs.SummaryLemmas as any
use Rattle.aia_word.proofs.SummaryLemmas.{none_some, none_in_word, summarizes}
use Rattle.aia_regs.specs.declared.limits.TheConstants.{SOURCE_WORDS}

pub none_word : (a : ℕ → Bool) (from : ℕ) → ((s : ℕ) → a s ≡ false) → 0 ≡ word_of a from 64
none_word a from none = word_from_bits a from 0 (omega arith) (λ i low. has_bit-zero i ∙ sym (none (from + i)))

-- ---- the summary

-- where one source changes, the other words stay
pub other_words : (summary s : ℕ) (ready : Bool) (old new : ℕ → Bool) → Summarizes summary old
    → ((t : ℕ) → new t ≡ cond (nat_eq s t) ready (old t)) → SummarizesAllBut (s / 64) summary new
other_words summary s ready old new told changed =
    any.other_words summary (s / 64) old new told (λ t other. changed t
    ∙ ap (λ b. cond b ready (old t)) (ne_eqb s t (λ e. other (ap (λ n. n / 64) (sym e)))))

-- a summary of 0 tells that no source is in the set
pub empty_told : (summary : ℕ) (words : List ℕ) → length words ≡ SOURCE_WORDS → Summarizes summary (is_in words) → summary ≡ 0 → (s : ℕ)
    → is_in words s ≡ false
empty_told summary words sixteen told zero_word s = elim (cases_lt (s / 64) 64) [
  | inl low ↦ none_in_word (is_in words) (s / 64) s refl
      (sym (summarizes summary (is_in words) told (s / 64) low) ∙ ap (λ x. has_bit x (s / 64)) zero_word ∙ has_bit-zero (s / 64))
  | inr past ↦ is_in-past words s (omega arith)
]

pub told_empty : (summary : ℕ) (a : ℕ → Bool) → summary < 2 ^ 64 → Summarizes summary a → ((s : ℕ) → a s ≡ false) → summary ≡ 0
told_empty summary a small told none = zero_word summary small (λ k low. summarizes summary a told k low ∙ none_some a k (λ i from below. none i))
