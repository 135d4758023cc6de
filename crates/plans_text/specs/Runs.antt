-- What a run promises, by its status.
use Rattle.std.specs.Prelude.{◌≡◌, ◌≢◌, ℕ, ◌+◌, ◌≤◌, ◌⊎◌, List, ◌++◌, length, Option, Some, None, IfSome}
use Rattle.std.specs.Io.KnownBytes.{Appends}
use Rattle.aia_io.specs.Ends.{Supply, Gives, Rose, Takes, TakesAtMost, TakesAll, CutOff}
use Rattle.aia_io.specs.declared.limits.TheConstants.{SOURCE_BYTES}
use Rattle.aia_io.specs.Lines.{NoEnd}
use Rattle.aia_io.specs.Words.{EndsUnasked}
use Rattle.aia_io.specs.Written.{CutsAll, WritesAll}
use Rattle.plans_text.specs.declared.plan_reader.PlanFileReader.{PlanFileReader}
use Rattle.plans_text.specs.declared.outcome.FileOutcome.{FileOutcome}
use Rattle.plans_text.specs.PlanFile.{answers}
use Rattle.plans_text.specs.PlanFile.{outcome as outcome_of_file}
use Rattle.plans_text.specs.Streaming.{AreWhole, HasRead, NoneWaits, ended_answers}
use Rattle.plans_text.specs.declared.command_line.PlansSubcommand.{PlansSubcommand}
use Rattle.plans_text.specs.declared.command_line.PlansSubcommand.TheVariants.{Judge}
use Rattle.plans_text.specs.declared.judging.Stop.{Stop}
use Rattle.plans_text.specs.declared.judging.Stop.TheVariants.{Sink, Memory as LacksMemory}
use Rattle.plans_text.specs.declared.program.PlansStatus.{PlansStatus}
use Rattle.plans_text.specs.declared.program.PlansStatus.TheVariants.{Done, Usage, ReadFault, WriteFault, Memory, TooLong}

-- ---- what is written

-- The whole file was taken, what is answered of it was written, and that came of its plans.
pub record JudgesAll (outcome : FileOutcome) (left rest : Supply) (before now : Option (List ℕ))
    : Type 0 where
  pub taken : TakesAll left rest
  pub written : WritesAll answers left before now
  pub came : IfSome left.to_come (λ file. outcome ≡ outcome_of_file file)

-- The sink took a front of what is answered of the bytes that were taken, no more than a file has.
pub record WritesPlansFront (left rest : Supply) (before now : Option (List ℕ)) : Type 0 where
  pub bytes : List ℕ
  pub taken : Gives left rest bytes
  pub within : length bytes ≤ SOURCE_BYTES
  pub cut : CutOff before now (answers bytes)

-- The sink took just what is answered of the plans that ended within the whole lines of some bytes;
-- after them these have no LF.
pub record AnswersEnded (before now : Option (List ℕ)) (bytes : List ℕ) : Type 0 where
  pub whole : List ℕ
  pub tail : List ℕ
  pub split : bytes ≡ whole ++ tail
  pub lines : AreWhole whole
  pub no_end : NoEnd tail
  pub written : Appends before now (ended_answers whole)

-- The sink took just that of the bytes that were taken, so many at the end left out of account.
pub record WritesEnded (count : ℕ) (left rest : Supply) (before now : Option (List ℕ))
    : Type 0 where
  pub bytes : List ℕ
  pub beyond : List ℕ
  pub taken : Gives left rest (bytes ++ beyond)
  pub within : length bytes ≤ SOURCE_BYTES
  pub past : length beyond ≡ count
  pub answered : AnswersEnded before now bytes

-- ---- on the way

-- A reader has read these bytes, and all that it gave was written: no answer waits.
pub record Judged (reader : PlanFileReader) (before now : Option (List ℕ)) (bytes : List ℕ)
    : Type 0 where
  pub given : List ℕ
  pub read : HasRead reader given bytes
  pub none : NoneWaits reader
  pub written : Appends before now given

-- Said of all that was judged, whatever that is.
abbrev pub WhateverWasJudged : PlanFileReader → Option (List ℕ)
    → (Option (List ℕ) → List ℕ → Type 0) → Type 0
WhateverWasJudged reader now P =
    (before : Option (List ℕ)) (bytes : List ℕ) → Judged reader before now bytes → P before bytes

-- The sink took a front of what is answered of these bytes, whatever follows them.
abbrev pub IsFront : Option (List ℕ) → Option (List ℕ) → List ℕ → Type 0
IsFront before now bytes = (more : List ℕ) → CutOff before now (answers (bytes ++ more))

-- ---- a run

-- How a run ends where it stops.
abbrev pub stopped : Stop → PlansStatus
stopped Sink = WriteFault
stopped LacksMemory = Memory

-- A run of `judge`, which answers each plan as it ends.
pub record EndsJudge (status : PlansStatus) (left rest : Supply) (before now : Option (List ℕ))
    (source_old source_new sink_old sink_new : ℕ) : Type 0 where
  pub done : (outcome : FileOutcome) → status ≡ Done outcome
      → JudgesAll outcome left rest before now
  pub write_fault : status ≡ WriteFault
      → WritesPlansFront left rest before now × Rose sink_old sink_new
  pub memory : status ≡ Memory → WritesPlansFront left rest before now
  pub read_fault : status ≡ ReadFault
      → WritesEnded 0 left rest before now × Rose source_old source_new
  pub too_long : status ≡ TooLong
      → WritesEnded 1 left rest before now × Takes (SOURCE_BYTES + 1) left rest
  -- in each case it is a front of the answers of the whole file, where the source tells it
  pub front : CutsAll answers left before now
  pub bound : TakesAtMost (SOURCE_BYTES + 1) left rest
  pub usage : status ≢ Usage

-- By what the words ask for.
abbrev pub EndsAsAsked : Option PlansSubcommand → PlansStatus → Supply → Supply → Option (List ℕ)
    → Option (List ℕ) → ℕ → ℕ → ℕ → ℕ → Type 0
EndsAsAsked None status left rest before now a b c d =
    EndsUnasked Usage Memory status left rest before now
EndsAsAsked (Some Judge) status left rest before now a b c d =
    EndsJudge status left rest before now a b c d
    ⊎ EndsUnasked Usage Memory status left rest before now
