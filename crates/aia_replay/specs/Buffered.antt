-- Answers that wait in a buffer for the sink. Vocabulary.
use Rattle.std.specs.Prelude.{◌≡◌, ℕ, List, ◌++◌, Option}
use Rattle.std.specs.Io.KnownBytes.{Appends}

-- The sink took some bytes, and those still waiting stand after them: together they are all that
-- was waiting and what was added.
pub record Gathers (waiting still : List ℕ) (before now : Option (List ℕ)) (added : List ℕ)
    : Type 0 where
  pub taken : List ℕ
  pub appended : Appends before now taken
  pub together : taken ++ still ≡ waiting ++ added
