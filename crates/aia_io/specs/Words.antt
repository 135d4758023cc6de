-- The words of a command line, and what they ask for. Which lists of words ask for what is each
-- program's own, and is named here by `asks`; it gives None for those that it refuses. Vocabulary.
use Rattle.std.specs.Prelude.{◌≡◌, ◌≢◌, ◌⊎◌, ℕ, List, map, drop, Vec, String, string_bytes, Option, None, Result, Ok, Err}
use Rattle.std.specs.Borrow.{Bor}
use Rattle.std.specs.IoError.{error_kind}
use Rattle.std.specs.declared.alloc.Global.{Global}
use Rattle.std.specs.declared.io.Error.{Error}
use Rattle.std.specs.declared.io.ErrorKind.TheVariants.{OutOfMemory}
use Rattle.aia_io.specs.Ends.{Supply}

-- What the words of the command line ask for, without the program's name; None where they are
-- refused.
abbrev pub asked : {A : Type 0} → (List (List ℕ) → Option A) → List (Bor (List ℕ)) → Option A
asked asks words = asks (map (λ (w : Bor (List ℕ)). w.now) words)

-- The words without the program's name, which comes first.
abbrev pub words_of : List (String Global) → List (List ℕ)
words_of arguments = drop 1 (map string_bytes arguments)

-- What they ask for; None where they are no text, are refused, or there is no memory for them.
abbrev pub asked_by : {A : Type 0} → (List (List ℕ) → Option A)
    → Result (Vec (String Global) Global) Error → Option A
asked_by asks (Ok arguments) = asks (words_of arguments.items)
asked_by asks (Err error) = None

-- These are the words that were read.
abbrev pub AreWordsOf : Result (Vec (String Global) Global) Error → List (Bor (List ℕ)) → Type 0
AreWordsOf (Ok arguments) words = map (λ (w : Bor (List ℕ)). w.now) words ≡ words_of arguments.items
AreWordsOf (Err error) words = ⊥

-- They are no text: reading them failed, and not for want of memory.
abbrev pub AreNoText : Result (Vec (String Global) Global) Error → Type 0
AreNoText (Ok arguments) = ⊥
AreNoText (Err error) = error_kind error ≢ OutOfMemory

-- They are refused: reading them failed, and not for want of memory; or they ask for nothing.
abbrev pub AreRefused : {A : Type 0} → (List (List ℕ) → Option A)
    → Result (Vec (String Global) Global) Error → Type 0
AreRefused asks (Ok arguments) = asks (words_of arguments.items) ≡ None
AreRefused asks (Err error) = error_kind error ≢ OutOfMemory

-- A run that touches nothing: the words are refused, or there is no memory for them. It ends by one
-- of the two statuses that say so.
pub record EndsUnasked {S : Type 0} (usage memory status : S) (left rest : Supply)
    (before now : Option (List ℕ)) : Type 0 where
  pub ends : (status ≡ usage) ⊎ (status ≡ memory)
  pub unread : rest ≡ left
  pub unwritten : now ≡ before
