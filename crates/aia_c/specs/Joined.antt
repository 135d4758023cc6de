-- Calls one after another, and the script that their lines make.
use Rattle.std.specs.Prelude.{◌≡◌, ℕ, ℤ, List, [], ◌∷◌, ◌++◌, Some}
use Rattle.aia_model.specs.declared.answer.Answer.{Answer}
use Rattle.aia_model.specs.Event.{History}
use Rattle.aia_model.specs.Text.{texts_of}
use Rattle.aia_model.specs.Reading.{reading}
use Rattle.aia_model.specs.Script.{text_answer, after_texts}
use Rattle.aia_replay.specs.Stands.{EngineState, StandsFor}
use Rattle.aia_replay.specs.Runs.{AreWholeLines}
use Rattle.aia_c.specs.Codes.{number, code_of}
use Rattle.aia_c.specs.Calls.{Answers}

-- A call that did its lines: these as a script, of whole lines; the bytes that it wrote; and the
-- engine that the handle had then.
pub record Call : Type 0 where
  pub script : List ℕ
  pub bytes : List ℕ
  pub engine : EngineState

-- The engine then stands for the history after the script's lines.
abbrev pub Moves : EngineState → EngineState → List ℕ → Type 0
Moves old new script =
    (h : History) → StandsFor old h → StandsFor new (after_texts h (texts_of script))

-- A call with a text or a script, which answered it.
pub record IsAnswered (old : EngineState) (call : Call) : Type 0 where
  pub lines : AreWholeLines call.script
  pub answers : Answers old call.engine call.script call.bytes

-- Any call, with text or without.
pub record IsDone (old : EngineState) (call : Call) : Type 0 where
  pub lines : AreWholeLines call.script
  pub moves : Moves old call.engine call.script

-- So is each of the calls, by the engine that the one before it left.
abbrev pub AreAnswered : EngineState → List Call → Type 0
AreAnswered old [] = Unit {0}
AreAnswered old (call ∷ calls) = IsAnswered old call × AreAnswered call.engine calls

abbrev pub AreDone : EngineState → List Call → Type 0
AreDone old [] = Unit {0}
AreDone old (call ∷ calls) = IsDone old call × AreDone call.engine calls

-- The joined script, the joined bytes, and the engine at the end.
abbrev pub script_of : List Call → List ℕ
script_of [] = []
script_of (call ∷ calls) = call.script ++ script_of calls

abbrev pub bytes_of : List Call → List ℕ
bytes_of [] = []
bytes_of (call ∷ calls) = call.bytes ++ bytes_of calls

abbrev pub left_by : EngineState → List Call → EngineState
left_by old [] = old
left_by old (call ∷ calls) = left_by call.engine calls

-- The code is that of the answer to a text, and the engine then stands for the history after it.
pub record DoesText (old new : EngineState) (text : List ℕ) (code : ℤ) : Type 0 where
  pub answers : (h : History) → StandsFor old h
      → (answer : Answer) × (text_answer h (reading text) ≡ Some answer)
      × (code ≡ number (code_of answer))
  pub moves : Moves old new (text ++ 10 ∷ [])
