-- The summary of two sets of identities: each bit tells of one word of the identities in both.
-- Profile: the standard has none; by it the identity on top is found in two looks.
use Rattle.std.specs.Prelude.{◌≡◌, ℕ, ◌*◌, ◌<◌, ◌≤◌, Bool, true, ◌&&◌}
use Rattle.aia_word.specs.Summary.{Summarizes, SummarizesAllBut}

-- Bit w is a one exactly where an identity of word w is in both sets.
abbrev pub SummarizesBoth : ℕ → (ℕ → Bool) → (ℕ → Bool) → Type 0
SummarizesBoth summary pending enabled = Summarizes summary (λ i. pending i && enabled i)

-- The same of each bit but one.
abbrev pub SummarizesBothAllBut : ℕ → ℕ → (ℕ → Bool) → (ℕ → Bool) → Type 0
SummarizesBothAllBut k summary pending enabled =
    SummarizesAllBut k summary (λ i. pending i && enabled i)

-- A set has only identities of so many words, and not 0, which is no identity.
abbrev pub AreIdentities : ℕ → (ℕ → Bool) → Type 0
AreIdentities words members = (i : ℕ) → members i ≡ true → (1 ≤ i) × (i < 64 * words)
