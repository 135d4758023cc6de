-- What a run promises, by its status. Vocabulary.
use Rattle.std.specs.Prelude.{◌≡◌, ◌≢◌, ℕ, ◌+◌, ◌≤◌, ◌⊎◌, Bool, true, false, List, [], ◌∷◌, ◌++◌, length, Option, Some, None}
use Rattle.std.specs.Io.KnownBytes.{Appends}
use Rattle.aia_io.specs.Ends.{Supply, Gives, Rose, RoseBy, Takes, CutOff, TakesAll, TakesAtMost}
use Rattle.aia_io.specs.declared.limits.TheConstants.{SOURCE_BYTES}
use Rattle.aia_io.specs.Taken.{IsAllLeft}
use Rattle.aia_io.specs.Words.{EndsUnasked}
use Rattle.aia_io.specs.Written.{CutsAll, WritesAll}
pub use Rattle.aia_io.specs.Lines.{NoEnd}
use Rattle.aia_command.specs.declared.subcommand.Subcommand.{Subcommand}
use Rattle.aia_command.specs.declared.subcommand.Subcommand.TheVariants.{Replay, Generate, Audit}
use Rattle.aia_model.specs.declared.parsed.Parsed.{Parsed}
use Rattle.aia_model.specs.declared.parsed.Parsed.TheVariants as parsed
use Rattle.aia_model.specs.Event.{History}
use Rattle.aia_model.specs.Refusal.{makes_machine}
use Rattle.aia_model.specs.Reading.{reading}
use Rattle.aia_model.specs.Script.{answers, history_of}
use Rattle.aia_generate.specs.Summary.{summary}
use Rattle.aia_plan.specs.declared.step.Kind.{Kind}
use Rattle.aia_audit.specs.PlanText.{audit_text}
use Rattle.aia_replay.specs.declared.program.Status.{Status}
use Rattle.aia_replay.specs.declared.program.Status.TheVariants.{Done, Usage, ReadFault, WriteFault, Memory, TooLong}

-- What the sink took is the answers of all that the source had left, where it tells that.
abbrev pub WritesAnswers : Supply → Option (List ℕ) → Option (List ℕ) → Type 0
WritesAnswers = WritesAll answers

-- Nothing was taken of the source, and nothing was written.
abbrev pub TouchesNothing : Supply → Supply → Option (List ℕ) → Option (List ℕ) → Type 0
TouchesNothing left rest before now = Gives left rest [] × Appends before now []

-- The source tells what it has left, and that is at most so many bytes.
abbrev pub HasAtMost : ℕ → Option (List ℕ) → Type 0
HasAtMost count None = ⊥
HasAtMost count (Some script) = length script ≤ count

-- The script has at most so many bytes: the source tells that; or, what a source that tells no
-- bytes can say too, its count of the bytes that it gave did not rise by one more than so many.
abbrev pub FitsIn : ℕ → Supply → Supply → Type 0
FitsIn count left rest =
    HasAtMost count left.to_come ⊎ (¬ RoseBy (count + 1) left.given rest.given)

-- The run ended by Done or Memory.
abbrev pub IsDoneOrMemory : Status → Type 0
IsDoneOrMemory status = (status ≡ Done) ⊎ (status ≡ Memory)

-- ---- a run that ends before the script does

-- The bytes are whole lines: there is none, or the last of them is an LF.
abbrev pub AreWholeLines : List ℕ → Type 0
AreWholeLines bytes = (bytes ≡ []) ⊎ ((front : List ℕ) × (bytes ≡ front ++ 10 ∷ []))

-- The answers of the whole lines that the bytes begin with are written, and no others; after them
-- the bytes have no LF.
pub record AnswersWhole (before now : Option (List ℕ)) (bytes : List ℕ) : Type 0 where
  pub whole : List ℕ
  pub tail : List ℕ
  pub split : bytes ≡ whole ++ tail
  pub lines : AreWholeLines whole
  pub no_end : NoEnd tail
  pub written : Appends before now (answers whole)

-- Those answers are written of the bytes that were taken, so many at the end left out of account.
pub record WritesLines (count : ℕ) (left rest : Supply) (before now : Option (List ℕ))
    : Type 0 where
  pub bytes : List ℕ
  pub beyond : List ℕ
  pub taken : Gives left rest (bytes ++ beyond)
  pub past : length beyond ≡ count
  pub answered : AnswersWhole before now bytes

-- The sink took a front of the answers of whole lines that the bytes begin with.
pub record CutsLines (before now : Option (List ℕ)) (bytes : List ℕ) : Type 0 where
  pub whole : List ℕ
  pub more : List ℕ
  pub split : bytes ≡ whole ++ more
  pub lines : AreWholeLines whole
  pub cut : CutOff before now (answers whole)

-- The sink took a front of the answers of the lines that were taken: of whole lines, or of all the
-- script's.
pub record WritesFront (left rest : Supply) (before now : Option (List ℕ)) : Type 0 where
  pub bytes : List ℕ
  pub taken : Gives left rest bytes
  pub cut : CutsLines before now bytes ⊎ (IsAllLeft left bytes × CutOff before now (answers bytes))

-- What a text reads as is a `machine` line that is accepted.
abbrev pub AsksMachine : History → Parsed → Type 0
AsksMachine h (parsed.Line line) = makes_machine h line ≡ true
AsksMachine h parsed.Skip = ⊥
AsksMachine h parsed.Bad = ⊥

-- A line that was taken, ended by an LF or by the script's end, is a `machine` line and accepted;
-- the answers of the lines before it, and no others, are written.
pub record StopsAtMachine (left rest : Supply) (before now : Option (List ℕ)) : Type 0 where
  pub whole : List ℕ
  pub text : List ℕ
  pub more : List ℕ
  pub taken : Gives left rest (whole ++ (text ++ more))
  pub lines : AreWholeLines whole
  pub no_end : NoEnd text
  pub end : ((next : List ℕ) × (more ≡ 10 ∷ next)) ⊎ ((more ≡ []) × IsAllLeft left (whole ++ text))
  pub asks : AsksMachine (history_of whole) (reading text)
  pub written : Appends before now (answers whole)

-- ---- what each subcommand does, by the status that the run ends with

-- A run of `replay`: what of the source's bytes is taken, and which answers are written. Memory may
-- lack for the words of the command line, and then nothing was touched, or for a machine.
pub record EndsReplay (status : Status) (left rest : Supply) (before now : Option (List ℕ))
    : Type 0 where
  pub done : status ≡ Done → WritesAnswers left before now
  pub all : status ≡ Done → TakesAll left rest
  pub read_fault : status ≡ ReadFault → WritesLines 0 left rest before now
  pub too_long : status ≡ TooLong → WritesLines 1 left rest before now
  pub write_fault : status ≡ WriteFault → WritesFront left rest before now
  pub bound : TakesAtMost (SOURCE_BYTES + 1) left rest
  pub limit : status ≢ TooLong → TakesAtMost SOURCE_BYTES left rest

-- A run of `gen`, of the text of the summary: it reads nothing. Memory may lack for the words, or
-- for the machine of the generated script.
pub record EndsGenerate (status : Status) (text : List ℕ) (left rest : Supply)
    (before now : Option (List ℕ)) : Type 0 where
  pub ends : (status ≡ Done) ⊎ ((status ≡ WriteFault) ⊎ (status ≡ Memory))
  pub unread : rest ≡ left
  pub done : status ≡ Done → Appends before now text
  pub write_fault : status ≡ WriteFault → CutOff before now text
  pub memory : status ≡ Memory → Appends before now []

-- What the sink took is what is printed of all that the source had left, where it tells that: the
-- verdict on the plan, or which of its texts is bad.
abbrev pub WritesVerdict : Kind → ℕ → Supply → Option (List ℕ) → Option (List ℕ) → Type 0
WritesVerdict kind words = WritesAll (audit_text kind words)

-- The sink failed, and took a front of that.
abbrev pub CutsVerdict : Kind → ℕ → Supply → Option (List ℕ) → Option (List ℕ) → Type 0
CutsVerdict kind words = CutsAll (audit_text kind words)

-- A run of `audit`, of a plan of a move of a kind, of files of so many words: it writes once all is
-- read, and nothing before. Only for the words of the command line may memory lack.
pub record EndsAudit (status : Status) (kind : Kind) (words : ℕ) (left rest : Supply)
    (before now : Option (List ℕ)) : Type 0 where
  pub done : status ≡ Done → WritesVerdict kind words left before now × TakesAll left rest
  pub write_fault : status ≡ WriteFault
      → CutsVerdict kind words left before now × TakesAll left rest
  pub unwritten : status ≢ Done → status ≢ WriteFault → Appends before now []
  pub memory : status ≡ Memory → TouchesNothing left rest before now
  pub bound : TakesAtMost (SOURCE_BYTES + 1) left rest
  pub limit : status ≢ TooLong → TakesAtMost SOURCE_BYTES left rest

-- By what the words ask for.
abbrev pub EndsAsAsked : Option Subcommand → Status → Supply → Supply → Option (List ℕ)
    → Option (List ℕ) → Type 0
EndsAsAsked None status left rest before now =
    EndsUnasked Usage Memory status left rest before now
EndsAsAsked (Some Replay) status left rest before now = EndsReplay status left rest before now
EndsAsAsked (Some (Generate count seed)) status left rest before now =
    EndsGenerate status (summary count seed) left rest before now
EndsAsAsked (Some (Audit kind words)) status left rest before now =
    EndsAudit status kind words left rest before now

-- Whether what is asked for reads the source.
abbrev pub reads_source : Option Subcommand → Bool
reads_source None = false
reads_source (Some Replay) = true
reads_source (Some (Generate count seed)) = false
reads_source (Some (Audit kind words)) = true

-- ---- the whole promise

-- What a run promises by what its words ask for and the status that it ends with: of what the
-- source had left before and after it, what the sink had taken before and after it, and the counts
-- of faults of the source and of the sink, each before and after it. Each fault has its cause, and
-- memory lacks where nothing was touched, or for a machine that a script asks for.
pub record RunEnds (asked : Option Subcommand) (status : Status) (left rest : Supply)
    (before now : Option (List ℕ)) (source_old source_new sink_old sink_new : ℕ) : Type 0 where
  pub as_asked : EndsAsAsked asked status left rest before now
  pub read_fault : status ≡ ReadFault → Rose source_old source_new
  pub write_fault : status ≡ WriteFault → Rose sink_old sink_new
  pub too_long : status ≡ TooLong → Takes (SOURCE_BYTES + 1) left rest
  pub memory : status ≡ Memory
      → TouchesNothing left rest before now ⊎ StopsAtMachine left rest before now
  pub source_faults : source_old ≤ source_new
  pub sink_faults : sink_old ≤ sink_new
