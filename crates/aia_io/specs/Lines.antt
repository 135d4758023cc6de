-- Lines, as bytes that an LF ends. Vocabulary.
use Rattle.std.specs.Prelude.{◌≡◌, ℕ, false, nat_eq, List}
use Rattle.std.specs.List.{All}

-- No byte of a text is an LF.
abbrev pub NoEnd : List ℕ → Type 0
NoEnd text = All (λ b. nat_eq b 10 ≡ false) text
