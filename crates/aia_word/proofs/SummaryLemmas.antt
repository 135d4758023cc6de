-- The summary of a set, and what it keeps where one word of the set changes.
use Rattle.std.proofs.Common.{◌≡◌, ℕ, ◌+◌, ◌-◌, ◌*◌, ◌/◌, ◌%◌, ◌^◌, ◌<◌, ◌≤◌, Bool, true, false, ◌&&◌, ◌||◌, not, Option, Some, None, is_some, nat_eq, inl, inr, refl, sym, ap, ◌∙◌, arith}
use Rattle.std.specs.Int.{w64, trailing_zeros}
use Rattle.std.specs.Prelude.{bit_and, bit_or}
use Rattle.std.proofs.lemmas.Bool.{cases_eq, eq-eqb, ne_eqb, false≢true}
use Rattle.std.proofs.lemmas.Nat.Bits.{bit_at-trailing_zeros}
use Rattle.aia_word.specs.Sets.{has_bit, has_some}
use Rattle.aia_word.specs.Summary.{Summarizes, SummarizesAllBut, ShowsWord}
use Rattle.aia_word.proofs.BitLemmas.{has_bit-set, has_bit-clear, has_bit-zero}
use Rattle.aia_word.proofs.LeastLemmas.{least_of-found, least_of-none, least_of-same, least_of_is_none}

-- ---- a word of the set

pub same_some : (a b : ℕ → Bool) (w : ℕ) → ((i : ℕ) → 64 * w ≤ i → i < 64 * w + 64 → a i ≡ b i) → has_some a w ≡ has_some b w
same_some a b w same = ap is_some (least_of-same a b (64 * w) 64 same)

pub none_some : (members : ℕ → Bool) (w : ℕ) → ((i : ℕ) → 64 * w ≤ i → i < 64 * w + 64 → members i ≡ false) → has_some members w ≡ false
none_some members w none = ap is_some (least_of-none members (64 * w) 64 none)

-- a member by the bit that shows it
shown_by : (x w i : ℕ) (members : ℕ → Bool) → ShowsWord x members w → 64 * w ≤ i → i < 64 * w + 64 → members i ≡ has_bit x (i - 64 * w)
shown_by x w i members shows low high =
    let at : 64 * w + (i - 64 * w) ≡ i = omega arith in ap members (sym at) ∙ sym (shows (i - 64 * w) (omega arith))

pub zero_has_none : (x w : ℕ) (members : ℕ → Bool) → ShowsWord x members w → x ≡ 0 → has_some members w ≡ false
zero_has_none x w members shows none =
    none_some members w (λ i low high. shown_by x w i members shows low high ∙ ap (λ y. has_bit y (i - 64 * w)) none ∙ has_bit-zero (i - 64 * w))

pub other_has_some : (x w : ℕ) (members : ℕ → Bool) → x < 2 ^ 64 → ShowsWord x members w → (x ≡ 0 → ⊥) → has_some members w ≡ true
other_has_some x w members small shows some =
    let more : 0 < x = omega (arith, some) in
    let low = bit_at-trailing_zeros w64 x more small in
    let t = trailing_zeros w64 x in
    ap is_some (least_of-found members (64 * w) 64 (64 * w + t) (omega arith) (omega (arith, low.0))
    (sym (shows t low.0) ∙ ap (λ b. nat_eq b 1) low.1)
    (λ i from below. shown_by x w i members shows from (omega (arith, low.0)) ∙ ap (λ y. nat_eq y 1) (low.2 (i - 64 * w) (omega arith))))

none_found : (found : Option ℕ) → is_some found ≡ false → found ≡ None
none_found None none = refl
none_found (Some i) none = absurd (false≢true (sym none))

pub none_in_word : (members : ℕ → Bool) (w i : ℕ) → i / 64 ≡ w → has_some members w ≡ false → members i ≡ false
none_in_word members w i at none = least_of_is_none members (64 * w) 64 (none_found _ none) i (omega arith) (omega arith)

-- ---- the summary

pub summarizes : (summary : ℕ) (members : ℕ → Bool) → Summarizes summary members → (w : ℕ) → w < 64 → has_bit summary w ≡ has_some members w
unfolding Summarizes
summarizes summary members told = told

pub none_summarized : (members : ℕ → Bool) → ((i : ℕ) → members i ≡ false) → Summarizes 0 members
unfolding Summarizes
none_summarized members none w low = has_bit-zero w ∙ sym (none_some members w (λ i a b. none i))

pub word_emptied : (summary k x : ℕ) (members : ℕ → Bool) → k < 64 → ShowsWord x members k → x ≡ 0 → SummarizesAllBut k summary members
    → Summarizes (bit_and summary (2 ^ 64 - 1 - 1 * 2 ^ k % 2 ^ 64)) members
unfolding Summarizes
word_emptied summary k x members small shows none others w low =
    has_bit-clear summary k w small low ∙ elim (cases_eq w k) [
      | inl at ↦ ap (λ b. not b && has_bit summary w) (eq-eqb w k at) ∙ sym (ap (has_some members) at ∙ zero_has_none x k members shows none)
      | inr ne ↦ ap (λ b. not b && has_bit summary w) (ne_eqb w k ne) ∙ others w low ne
    ]

pub word_filled : (summary k x : ℕ) (members : ℕ → Bool) → k < 64 → x < 2 ^ 64 → ShowsWord x members k → (x ≡ 0 → ⊥)
    → SummarizesAllBut k summary members → Summarizes (bit_or summary (1 * 2 ^ k % 2 ^ 64)) members
unfolding Summarizes
word_filled summary k x members small fits shows some others w low =
    has_bit-set summary k w small ∙ elim (cases_eq w k) [
      | inl at ↦ ap (λ b. b || has_bit summary w) (eq-eqb w k at) ∙ sym (ap (has_some members) at ∙ other_has_some x k members fits shows some)
      | inr ne ↦ ap (λ b. b || has_bit summary w) (ne_eqb w k ne) ∙ others w low ne
    ]

-- where a set changes in word k alone, the other bits still tell of it
pub other_words : (summary k : ℕ) (old new : ℕ → Bool) → Summarizes summary old → ((i : ℕ) → (i / 64 ≡ k → ⊥) → new i ≡ old i)
    → SummarizesAllBut k summary new
other_words summary k old new told same w low other =
    summarizes summary old told w low ∙ sym (same_some new old w (λ i a b. same i (λ at. other (omega arith))))
