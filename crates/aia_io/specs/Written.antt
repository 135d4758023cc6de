-- What is written of all that a source had left, where it tells that: what is answered of those
-- bytes, or a front of it. Which answers bytes have is each program's own. Vocabulary.
use Rattle.std.specs.Prelude.{ℕ, List, Option, IfSome}
use Rattle.std.specs.Io.KnownBytes.{Appends}
use Rattle.aia_io.specs.Ends.{Supply, CutOff}

-- The sink took just that.
abbrev pub WritesAll : (List ℕ → List ℕ) → Supply → Option (List ℕ) → Option (List ℕ) → Type 0
WritesAll answers left before now =
    IfSome left.to_come (λ bytes. Appends before now (answers bytes))

-- It took a front of that.
abbrev pub CutsAll : (List ℕ → List ℕ) → Supply → Option (List ℕ) → Option (List ℕ) → Type 0
CutsAll answers left before now =
    IfSome left.to_come (λ bytes. CutOff before now (answers bytes))
