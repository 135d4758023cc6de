-- A file of plans that comes in pieces: what was read, and what was answered of it.
use Rattle.std.specs.Prelude.{◌≡◌, ℕ, ◌≤◌, [], ◌++◌, length}
use Rattle.aia_io.specs.Lines.{NoEnd}
use Rattle.plans_text.specs.declared.plan_reader.PlanFileReader.{PlanFileReader}
use Rattle.plans_text.specs.Reading.{Text}
use Rattle.plans_text.specs.PlanFile.{AreInFile, FileRead, none_read, read_of, texts_of, with_texts}

-- The bytes are whole lines: what follows them begins a line of its own.
abbrev pub AreWhole : Text → Type 0
AreWhole bytes = (more : Text) → texts_of (bytes ++ more) ≡ texts_of bytes ++ texts_of more

-- What is answered of the plans that end within whole lines: of each that a line `plan` follows.
abbrev pub ended_answers : Text → Text
ended_answers whole = (with_texts none_read (texts_of whole)).answers

-- What was read, with answers that were taken out before.
abbrev pub after : Text → FileRead → FileRead
after given read = record read { answers = given ++ read.answers }

-- A reader has read these bytes, and gave these answers: its plan is that of the whole lines, and
-- what it gave and what waits are the answers of the plans that ended within them.
pub record HasRead (reader : PlanFileReader) (given bytes : Text) : Type 0 where
  pub whole : Text
  pub tail : Text
  pub split : bytes ≡ whole ++ tail
  pub lines : AreWhole whole
  pub no_end : NoEnd tail
  pub rest : reader.rest.items ≡ tail
  pub read : after given (read_of reader.file) ≡ with_texts none_read (texts_of whole)
  pub inside : AreInFile reader.file.draft
  pub few : reader.file.lines ≤ length whole

-- It can read on: the words that the steps of its plan name are words of the file. How many lines
-- it has read; and no answers wait in it.
abbrev pub IsReady : PlanFileReader → Type 0
IsReady reader = AreInFile reader.file.draft

abbrev pub lines_read : PlanFileReader → ℕ
lines_read reader = reader.file.lines

abbrev pub NoneWaits : PlanFileReader → Type 0
NoneWaits reader = reader.file.answers.items ≡ []

-- Said of all that a reader has read, whatever that is.
abbrev pub WhateverWasRead : PlanFileReader → (Text → Text → Type 0) → Type 0
WhateverWasRead reader P = (given bytes : Text) → HasRead reader given bytes → P given bytes
