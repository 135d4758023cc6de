-- What a replayer has read, answered and written. Vocabulary.
use Rattle.std.specs.Prelude.{◌≡◌, ◌≢◌, ℕ, ◌+◌, ◌<◌, ◌≤◌, ◌⊎◌, List, [], ◌∷◌, ◌++◌, length, take, Option}
use Rattle.std.specs.Io.KnownBytes.{Appends}
use Rattle.aia_io.specs.Ends.{Supply, Gives, CutOff, TakesAtMost}
use Rattle.aia_io.specs.declared.limits.TheConstants.{SOURCE_BYTES}
use Rattle.aia_io.specs.Taken.{IsAllLeft}
use Rattle.aia_io.specs.Lines.{NoEnd}
use Rattle.aia_model.specs.Event.{History}
use Rattle.aia_model.specs.Text.{texts_of}
use Rattle.aia_model.specs.declared.parsed.Parsed.{Parsed}
use Rattle.aia_model.specs.Reading.{reading}
use Rattle.aia_model.specs.Script.{answers, answers_from, printed, text_answer, after_text, after_texts, history_of}
use Rattle.aia_model.specs.declared.limits.TheConstants.{LINE_BYTES}
use Rattle.aia_replay.specs.declared.replayer.Replayer.{Replayer}
use Rattle.aia_replay.specs.declared.program.Status.{Status}
use Rattle.aia_replay.specs.declared.program.Status.TheVariants.{Done, ReadFault, TooLong}
use Rattle.aia_replay.specs.Buffered.{Gathers}
use Rattle.aia_replay.specs.Stands.{StandsFor, ReadsAsMachine}
use Rattle.aia_replay.specs.Runs.{AreWholeLines, AnswersWhole, CutsLines, WritesFront, AsksMachine}

-- The bytes read so far are whole lines, which are answered, and the tail of a line whose LF wasn't
-- read; what was answered is written or waits in the buffer, and whatever follows is answered as
-- the script's rest.
pub record HasAnswered (r : Replayer) (before now : Option (List ℕ)) (bytes : List ℕ) : Type 0 where
  pub history : History
  pub written : List ℕ
  pub whole : List ℕ
  pub tail : List ℕ
  pub stands : StandsFor r.engine history
  pub gathered : Gathers [] r.out.bytes.items before now written
  pub split : bytes ≡ whole ++ tail
  pub answered : written ≡ answers whole
  pub completes : (more : List ℕ)
      → written ++ answers_from history (texts_of (tail ++ more)) ≡ answers (bytes ++ more)
  pub lines : AreWholeLines whole
  pub told : history ≡ history_of whole
  pub tells : (more : List ℕ)
      → after_texts history (texts_of (tail ++ more)) ≡ history_of (bytes ++ more)
  pub no_end : NoEnd tail
  pub line : r.line.items ≡ take (LINE_BYTES + 1) tail

-- A line of the bytes asks for a machine, for which there is no memory. The answers of the lines
-- before it are written or wait, and `more` follows it.
pub record HasStopped (r : Replayer) (before now : Option (List ℕ)) (bytes more : List ℕ)
    : Type 0 where
  pub whole : List ℕ
  pub text : List ℕ
  pub gathered : Gathers [] r.out.bytes.items before now (answers whole)
  pub split : bytes ≡ whole ++ (text ++ more)
  pub lines : AreWholeLines whole
  pub no_end : NoEnd text
  pub asks : AsksMachine (history_of whole) (reading text)

-- Nothing was read yet.
pub record Begins (r : Replayer) : Type 0 where
  pub engine : StandsFor r.engine []
  pub line : r.line.items ≡ []
  pub out : r.out.bytes.items ≡ []

-- Said of all that a replayer holds and its sink took, whatever it had read and the sink had taken
-- before.
abbrev pub WhateverWasRead : Replayer → Option (List ℕ) → (Option (List ℕ) → List ℕ → Type 0)
    → Type 0
WhateverWasRead r now P =
    (before : Option (List ℕ)) (bytes : List ℕ) → HasAnswered r before now bytes → P before bytes

-- All that waits is written, whatever was read before.
pub record WritesOut (old new : Replayer) (mid now : Option (List ℕ)) : Type 0 where
  pub holds : WhateverWasRead old mid (λ before bytes. HasAnswered new before now bytes)
  pub empty : new.out.bytes.items ≡ []

-- The sink failed, and took a front of what waits, whatever was read before.
abbrev pub WritesOutFront : Replayer → Option (List ℕ) → Option (List ℕ) → Type 0
WritesOutFront old mid now = WhateverWasRead old mid (λ before bytes. CutsLines before now bytes)

-- A piece more was read, whatever was read before.
abbrev pub Feeds : Replayer → Replayer → Option (List ℕ) → Option (List ℕ) → List ℕ → Type 0
Feeds old new mid now piece =
    WhateverWasRead old mid (λ before bytes. HasAnswered new before now (bytes ++ piece))

-- All that was read is a script, and its answers are written.
abbrev pub Finishes : Replayer → Option (List ℕ) → Option (List ℕ) → Type 0
Finishes old mid now = WhateverWasRead old mid (λ before bytes. Appends before now (answers bytes))

-- The sink failed on the way through a piece, and took a front of the answers of its whole lines.
abbrev pub FeedsFront : Replayer → Option (List ℕ) → Option (List ℕ) → List ℕ → Type 0
FeedsFront old mid now piece =
    WhateverWasRead old mid (λ before bytes. CutsLines before now (bytes ++ piece))

-- A line of a piece, ended by its LF, asks for a machine, for which there is no memory.
abbrev pub FeedsStop : Replayer → Replayer → Option (List ℕ) → Option (List ℕ) → List ℕ → Type 0
FeedsStop old new mid now piece = WhateverWasRead old mid
    (λ before bytes. (next : List ℕ) × HasStopped new before now (bytes ++ piece) (10 ∷ next))

-- The sink failed at the script's end, and took a front of the script's answers.
abbrev pub FinishesFront : Replayer → Option (List ℕ) → Option (List ℕ) → Type 0
FinishesFront old mid now =
    WhateverWasRead old mid (λ before bytes. CutOff before now (answers bytes))

-- The script's last line asks for a machine, for which there is no memory.
abbrev pub FinishesStop : Replayer → Replayer → Option (List ℕ) → Option (List ℕ) → Type 0
FinishesStop old new mid now =
    WhateverWasRead old mid (λ before bytes. HasStopped new before now bytes [])

-- A text reads as a line that makes a machine, there is no memory for one, and nothing was
-- answered.
pub record LacksMemoryFor (old new : Replayer) (mid now : Option (List ℕ)) (read : Parsed)
    : Type 0 where
  pub asks : ReadsAsMachine old.engine read
  pub same : new.out ≡ old.out
  pub kept : now ≡ mid

-- What a text reads as is answered, whatever history the engine stood for.
pub record AnswersRead (old new : Replayer) (mid now : Option (List ℕ)) (read : Parsed)
    : Type 0 where
  pub answers : (h : History) → StandsFor old.engine h
      → Gathers old.out.bytes.items new.out.bytes.items mid now (printed (text_answer h read))
  pub stands : (h : History) → StandsFor old.engine h → StandsFor new.engine (after_text h read)

-- The same of the text of a line.
abbrev pub LacksMemory : Replayer → Replayer → Option (List ℕ) → Option (List ℕ) → List ℕ → Type 0
LacksMemory old new mid now text = LacksMemoryFor old new mid now (reading text)

-- The text of a line is answered, and the next line begins.
pub record AnswersText (old new : Replayer) (mid now : Option (List ℕ)) (text : List ℕ)
    : Type 0 where
  pub read : AnswersRead old new mid now (reading text)
  pub empty : new.line.items ≡ []

-- ---- a whole run

-- The bytes are as many as a script has at most, whose whole lines are answered, and one more.
pub record GoesPast (before now : Option (List ℕ)) (bytes : List ℕ) : Type 0 where
  pub within : List ℕ
  pub beyond : List ℕ
  pub split : bytes ≡ within ++ beyond
  pub full : length within ≡ SOURCE_BYTES
  pub one : length beyond ≡ 1
  pub answered : AnswersWhole before now within

-- What was written where reading ended so: at the end the answers of the script, else the answers
-- of the whole lines read; a script that is too long was read to its limit and one byte further.
abbrev pub WrittenFor : Status → Option (List ℕ) → Option (List ℕ) → List ℕ → Type 0
WrittenFor Done before now bytes = Appends before now (answers bytes)
WrittenFor ReadFault before now bytes = AnswersWhole before now bytes
WrittenFor TooLong before now bytes = GoesPast before now bytes
WrittenFor status before now bytes = ⊥

-- A run took some bytes of the source, and wrote what its status says.
pub record Streams (status : Status) (left rest : Supply) (before now : Option (List ℕ))
    : Type 0 where
  pub bytes : List ℕ
  pub taken : Gives left rest bytes
  pub written : WrittenFor status before now bytes
  pub whole : status ≡ Done → IsAllLeft left bytes
  pub limit : status ≢ TooLong → length bytes ≤ SOURCE_BYTES

-- A run took no more bytes of the source than a script may have, and the sink failed after a front
-- of their answers.
pub record StreamsFront (left rest : Supply) (before now : Option (List ℕ)) : Type 0 where
  pub front : WritesFront left rest before now
  pub limit : TakesAtMost SOURCE_BYTES left rest

-- A run took some bytes of the source, no more than a script may have, and stopped at a line that
-- asks for a machine, for which there is no memory.
pub record StreamsStop (r : Replayer) (left rest : Supply) (before now : Option (List ℕ))
    : Type 0 where
  pub bytes : List ℕ
  pub more : List ℕ
  pub taken : Gives left rest bytes
  pub holds : HasStopped r before now bytes more
  pub end : ((next : List ℕ) × (more ≡ 10 ∷ next)) ⊎ ((more ≡ []) × IsAllLeft left bytes)
  pub limit : length bytes ≤ SOURCE_BYTES
