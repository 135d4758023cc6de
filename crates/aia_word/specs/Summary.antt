-- A summary of a set: 64 bits, each of which tells of one word of the set. Vocabulary.
use Rattle.std.specs.Prelude.{◌≡◌, ◌≢◌, ℕ, ◌+◌, ◌*◌, ◌<◌, Bool}
use Rattle.aia_word.specs.Sets.{has_bit, has_some}

-- Bit w is a one exactly where a number of word w is in the set.
unfoldable pub Summarizes : ℕ → (ℕ → Bool) → Type 0
Summarizes summary members = (w : ℕ) → w < 64 → has_bit summary w ≡ has_some members w

-- The same of each bit but one.
abbrev pub SummarizesAllBut : ℕ → ℕ → (ℕ → Bool) → Type 0
SummarizesAllBut k summary members =
    (w : ℕ) → w < 64 → w ≢ k → has_bit summary w ≡ has_some members w

-- A number shows word w of a set.
abbrev pub ShowsWord : ℕ → (ℕ → Bool) → ℕ → Type 0
ShowsWord x members w = (b : ℕ) → b < 64 → has_bit x b ≡ members (64 * w + b)
