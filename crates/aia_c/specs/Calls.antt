-- What the calls answer and do. A handle is open, with an engine, or closed. Vocabulary.
use Rattle.std.specs.Prelude.{◌≡◌, ◌⊎◌, ℕ, ◌<◌, ◌≤◌, ℤ, true, List, [], ◌∷◌, Option, Some, None, Result, Ok, Err}
use Rattle.std.specs.List.{AllByRecursion}
use Rattle.aia_model.specs.declared.line.Line.{Line}
use Rattle.aia_model.specs.declared.line.Line.TheVariants.{Pins, Hgeip}
use Rattle.aia_model.specs.declared.answer.Answer.{Answer}
use Rattle.aia_model.specs.Event.{History}
use Rattle.aia_model.specs.Text.{texts_of}
use Rattle.aia_model.specs.Reading.{reading}
use Rattle.aia_model.specs.Refusal.{makes_machine}
use Rattle.aia_model.specs.Answer.{answer, answer_word, after}
use Rattle.aia_model.specs.Script.{printed, text_answer, after_text, answers_from, after_texts}
use Rattle.aia_replay.specs.Stands.{EngineState, StandsFor, Serves, ReadsAsMachine}
use Rattle.aia_replay.specs.Runs.{AreWholeLines}
use Rattle.aia_c.specs.declared.code.Code.{Code}
use Rattle.aia_c.specs.declared.code.Code.TheVariants.{Done, NoMemory, Closed, Open, NoRoom, NoLine}
use Rattle.aia_model.specs.declared.limits.TheConstants.{ANSWER_BYTES}
use Rattle.aia_c.specs.Codes.{number, code_of, text_code, answer_of, wide_of, pins_of}

-- A closed handle is opened, with an engine that has no machine, or there is no memory; an open one
-- stays as it is.
abbrev pub Opens : Option EngineState → Option EngineState → ℤ → Type 0
Opens None None code = code ≡ number NoMemory
Opens None (Some new) code = (code ≡ number Done) × StandsFor new []
Opens (Some old) new code = (code ≡ number Open) × (new ≡ Some old)

-- The handle is closed, and nothing changed.
pub record IsClosed (new : Option EngineState) (code : ℤ) : Type 0 where
  pub says : code ≡ number Closed
  pub same : new ≡ None

-- An open handle's engine has no machine again, as when it was opened; a closed one stays closed.
abbrev pub Resets : Option EngineState → Option EngineState → ℤ → Type 0
Resets None new code = IsClosed new code
Resets (Some old) None code = ⊥
Resets (Some old) (Some new) code = (code ≡ number Done) × StandsFor new []

-- ---- a text

-- Whatever history the engine stood for, the bytes are what the text answers after it, and the
-- engine then stands for the history after the text.
pub record Gives (old new : EngineState) (text bytes : List ℕ) : Type 0 where
  pub answers : (h : History) → StandsFor old h → bytes ≡ printed (text_answer h (reading text))
  pub stands : (h : History) → StandsFor old h → StandsFor new (after_text h (reading text))

-- A text makes a machine, for which there is no memory, and nothing changed.
pub record Lacks (old new : EngineState) (text bytes : List ℕ) : Type 0 where
  pub same : new ≡ old
  pub none : StandsFor old []
  pub asks : ReadsAsMachine old (reading text)
  pub nothing : bytes ≡ []

-- There is too little room for an answer, and nothing changed.
pub record IsCramped (old new : Option EngineState) (bytes : List ℕ) (code : ℤ) : Type 0 where
  pub says : code ≡ number NoRoom
  pub same : new ≡ old
  pub nothing : bytes ≡ []

abbrev pub Reads : Option EngineState → Option EngineState → List ℕ → List ℕ → ℤ → Type 0
Reads None new text bytes code = IsClosed new code × (bytes ≡ [])
Reads (Some old) None text bytes code = ⊥
Reads (Some old) (Some new) text bytes code =
    ((code ≡ number Done) × Gives old new text bytes)
    ⊎ ((code ≡ number NoMemory) × Lacks old new text bytes)

-- A call with a text, which writes these bytes: with less room than an answer may take, it looks at
-- neither the handle nor the text.
pub record Lines (old new : Option EngineState) (text bytes : List ℕ) (room : ℕ) (code : ℤ)
    : Type 0 where
  pub cramped : room < ANSWER_BYTES → IsCramped old new bytes code
  pub reads : ANSWER_BYTES ≤ room → Reads old new text bytes code

-- The same, and the code is that of the text's answer, whatever history the engine stood for.
pub record GivesCode (old new : EngineState) (text bytes : List ℕ) (code : ℤ) : Type 0 where
  pub gives : Gives old new text bytes
  pub says : (h : History) → StandsFor old h
      → code ≡ number (text_code (text_answer h (reading text)))

abbrev pub ReadsCode : Option EngineState → Option EngineState → List ℕ → List ℕ → ℤ → Type 0
ReadsCode None new text bytes code = IsClosed new code × (bytes ≡ [])
ReadsCode (Some old) None text bytes code = ⊥
ReadsCode (Some old) (Some new) text bytes code =
    GivesCode old new text bytes code ⊎ ((code ≡ number NoMemory) × Lacks old new text bytes)

-- A call with a text that says the code of its answer: with less room than an answer may take, it
-- looks at neither the handle nor the text.
pub record Texts (old new : Option EngineState) (text bytes : List ℕ) (room : ℕ) (code : ℤ)
    : Type 0 where
  pub cramped : room < ANSWER_BYTES → IsCramped old new bytes code
  pub reads : ANSWER_BYTES ≤ room → ReadsCode old new text bytes code

-- ---- the word of a code

abbrev pub SpellsCode : Option Answer → List ℕ → ℤ → Type 0
SpellsCode None bytes code = (code ≡ number NoLine) × (bytes ≡ [])
SpellsCode (Some answer) bytes code = (code ≡ number Done) × (bytes ≡ answer_word answer)

-- A call that spells the code of an answer, as that answer is spelled; with less room than an
-- answer may take, it does not look at the number.
pub record Names (named : ℤ) (bytes : List ℕ) (room : ℕ) (code : ℤ) : Type 0 where
  pub cramped : room < ANSWER_BYTES → (code ≡ number NoRoom) × (bytes ≡ [])
  pub spells : ANSWER_BYTES ≤ room → SpellsCode (answer_of named) bytes code

-- ---- a script

-- Whatever history the engine stood for, the bytes are the answers of the script's lines after it,
-- and the engine then stands for the history after them all.
pub record Answers (old new : EngineState) (script bytes : List ℕ) : Type 0 where
  pub answers : (h : History) → StandsFor old h → bytes ≡ answers_from h (texts_of script)
  pub stands : (h : History) → StandsFor old h → StandsFor new (after_texts h (texts_of script))

-- The first text of the rest makes a machine, for which there is no memory.
pub record WantsMemory (new : EngineState) (rest : List ℕ) : Type 0 where
  pub none : StandsFor new []
  pub text : List ℕ
  pub more : List (List ℕ)
  pub first : texts_of rest ≡ text ∷ more
  pub asks : ReadsAsMachine new (reading text)

-- Why a script was answered no further: nothing is left of it; or something is, and so little room
-- that the next answer may not fit; or memory is wanted.
abbrev pub Stops : EngineState → List ℕ → ℕ → ℤ → Type 0
Stops new rest room code =
    ((code ≡ number Done) × (rest ≡ []))
    ⊎ (((code ≡ number NoRoom) × (¬ (rest ≡ [])) × (room < ANSWER_BYTES))
    ⊎ ((code ≡ number NoMemory) × WantsMemory new rest))

-- A script was taken up to a rest: what was taken is answered, and is whole lines or all of it.
pub record CallTakes (old new : EngineState) (taken rest bytes : List ℕ) (room : ℕ) (code : ℤ)
    : Type 0 where
  pub answers : Answers old new taken bytes
  pub lines : AreWholeLines taken ⊎ (rest ≡ [])
  pub stops : Stops new rest room code

-- A call with a script, of which it takes the front and leaves the rest; it writes these bytes, and
-- leaves so much room.
abbrev pub Scripts : Option EngineState → Option EngineState → List ℕ → List ℕ → List ℕ → ℕ → ℤ
    → Type 0
Scripts None new taken rest bytes room code = IsClosed new code × (taken ≡ []) × (bytes ≡ [])
Scripts (Some old) None taken rest bytes room code = ⊥
Scripts (Some old) (Some new) taken rest bytes room code =
    CallTakes old new taken rest bytes room code

-- ---- calls without text

-- There is no memory for a machine, and nothing changed.
pub record WantsMachineMemory (old new : EngineState) (line : Line) : Type 0 where
  pub same : new ≡ old
  pub none : StandsFor old []
  pub asks : makes_machine [] line ≡ true

-- A line is served by a handle's engine, or a code says what stood in the way.
abbrev pub Serving : Option EngineState → Option EngineState → Line → Result Answer Code → Type 0
Serving None new line (Ok answer) = ⊥
Serving None new line (Err code) = (code ≡ Closed) × (new ≡ None)
Serving (Some old) None line given = ⊥
Serving (Some old) (Some new) line (Ok answer) = Serves old new line answer
Serving (Some old) (Some new) line (Err code) = (code ≡ NoMemory) × WantsMachineMemory old new line

-- Whatever history the engine stood for, the code is that of the line's answer after it, and the
-- engine then stands for the history after the line.
pub record Does (old new : EngineState) (line : Line) (code : ℤ) : Type 0 where
  pub answers : (h : History) → StandsFor old h → code ≡ number (code_of (answer h line))
  pub stands : (h : History) → StandsFor old h → StandsFor new (after h line)

-- The same of a line that reads a value.
pub record DoesRead (of : Answer → ℕ) (old new : EngineState) (line : Line) (code : ℤ) (value : ℕ)
    : Type 0 where
  pub does : Does old new line code
  pub reads : (h : History) → StandsFor old h → value ≡ of (answer h line)

-- The same of a line that reads several values.
pub record DoesReadAll (of : Answer → List ℕ) (old new : EngineState) (line : Line) (code : ℤ)
    (values : List ℕ) : Type 0 where
  pub does : Does old new line code
  pub reads : (h : History) → StandsFor old h → values ≡ of (answer h line)

-- A call that makes a machine: only such a call can want memory.
abbrev pub Makes : Option EngineState → Option EngineState → Line → ℤ → Type 0
Makes None new line code = IsClosed new code
Makes (Some old) None line code = ⊥
Makes (Some old) (Some new) line code =
    Does old new line code ⊎ ((code ≡ number NoMemory) × WantsMachineMemory old new line)

-- A call of any other line.
abbrev pub Acts : Option EngineState → Option EngineState → Line → ℤ → Type 0
Acts None new line code = IsClosed new code
Acts (Some old) None line code = ⊥
Acts (Some old) (Some new) line code = Does old new line code

-- A call that gives a value, 0 where there is none.
abbrev pub Fetches : (Answer → ℕ) → Option EngineState → Option EngineState → Line → ℤ → ℕ → Type 0
Fetches of None new line code value = IsClosed new code × (value ≡ 0)
Fetches of (Some old) None line code value = ⊥
Fetches of (Some old) (Some new) line code value = DoesRead of old new line code value

-- A call that gives several values, all 0 where there are none.
abbrev pub FetchesAll : (Answer → List ℕ) → Option EngineState → Option EngineState → Line → ℤ
    → List ℕ → Type 0
FetchesAll of None new line code values =
    IsClosed new code × AllByRecursion (λ value. value ≡ 0) values
FetchesAll of (Some old) None line code values = ⊥
FetchesAll of (Some old) (Some new) line code values = DoesReadAll of old new line code values

-- A call that gives both signals of a hart does as `pins`, then as `hgeip`; the code is the first
-- of theirs that is not `Done`.
pub record Signals (old new : Option EngineState) (hart : ℕ) (code : ℤ) (harts guests : ℕ)
    : Type 0 where
  pub between : Option EngineState
  pub first : ℤ
  pub second : ℤ
  pub pins : Fetches pins_of old between (Pins hart) first harts
  pub hgeip : Fetches wide_of between new (Hgeip hart) second guests
  pub done : first ≡ number Done → code ≡ second
  pub refused : ¬ (first ≡ number Done) → code ≡ first

-- A call whose numbers may name no line: then nothing changed.
abbrev pub Accesses : Option EngineState → Option EngineState → Option Line → ℤ → ℕ → Type 0
Accesses old new None code value = (code ≡ number NoLine) × (new ≡ old) × (value ≡ 0)
Accesses old new (Some line) code value = Fetches wide_of old new line code value

-- The same of a call that gives no value.
abbrev pub ActsAt : Option EngineState → Option EngineState → Option Line → ℤ → Type 0
ActsAt old new None code = (code ≡ number NoLine) × (new ≡ old)
ActsAt old new (Some line) code = Acts old new line code
