-- What is read of a plan. Vocabulary.
use Rattle.std.specs.Prelude.{◌≡◌, ◌≢◌, ℕ, ◌+◌, ◌≤◌, ◌⊎◌, List, [], ◌++◌, length, take, Option, Some, None}
use Rattle.std.specs.List.{All}
use Rattle.aia_io.specs.Ends.{Supply, Gives}
use Rattle.aia_io.specs.declared.limits.TheConstants.{SOURCE_BYTES}
use Rattle.aia_io.specs.Taken.{IsAllLeft}
use Rattle.aia_io.specs.Lines.{NoEnd}
use Rattle.aia_model.specs.Text.{texts_of}
use Rattle.aia_model.specs.declared.limits.TheConstants.{LINE_BYTES}
use Rattle.aia_plan.specs.Plan.{WrittenPlan, IsInside}
use Rattle.aia_audit.specs.PlanText.{PlanRead, plan_of, with_texts}
use Rattle.aia_audit.specs.PlanText.PlanRead.{Steps, BadAt}
use Rattle.aia_replay.specs.declared.plan_so_far.PlanSoFar.{PlanSoFar}
use Rattle.aia_replay.specs.declared.plan_reader.PlanReader.{PlanReader}
use Rattle.aia_replay.specs.declared.program.Status.{Status}
use Rattle.aia_replay.specs.declared.program.Status.TheVariants.{Done, ReadFault, TooLong}

-- What was read: the steps, or which text is bad.
abbrev pub read_by : Option ℕ → WrittenPlan → PlanRead
read_by None plan = Steps plan
read_by (Some k) plan = BadAt k

abbrev pub plan_read : PlanSoFar → PlanRead
plan_read p = read_by p.bad p.steps.items

-- The words that the steps name are words of the plan's files.
abbrev pub AreInside : PlanSoFar → Type 0
AreInside p = All (IsInside p.words) p.steps.items

-- Nothing was read yet, of a plan of files of so many words.
pub record BeginsPlan (r : PlanReader) (words : ℕ) : Type 0 where
  pub width : r.plan.words ≡ words
  pub inside : AreInside r.plan
  pub read : plan_read r.plan ≡ Steps []
  pub line : r.line.items ≡ []

-- The bytes read so far are whole lines, which are read, and the tail of a line whose LF wasn't
-- read; whatever follows is read as the rest of the plan.
pub record HoldsPlan (r : PlanReader) (words : ℕ) (bytes : List ℕ) : Type 0 where
  pub tail : List ℕ
  pub width : r.plan.words ≡ words
  pub no_end : NoEnd tail
  pub line : r.line.items ≡ take (LINE_BYTES + 1) tail
  pub completes : (more : List ℕ) → with_texts words (plan_read r.plan) (texts_of (tail ++ more))
      ≡ plan_of words (bytes ++ more)

-- A piece more was read, whatever was read before.
abbrev pub FeedsPlan : PlanReader → PlanReader → List ℕ → Type 0
FeedsPlan old new piece = (words : ℕ) (bytes : List ℕ) → HoldsPlan old words bytes
    → HoldsPlan new words (bytes ++ piece)

-- All that was read is the whole of a plan.
abbrev pub FinishesPlan : PlanReader → PlanReader → Type 0
FinishesPlan old new = (words : ℕ) (bytes : List ℕ) → HoldsPlan old words bytes
    → (new.plan.words ≡ words) × (plan_read new.plan ≡ plan_of words bytes)

-- A run took some bytes of the source: at Done all of the plan, which is read; at TooLong one more
-- than it may have.
pub record StreamsPlan (status : Status) (words : ℕ) (read : PlanRead) (left rest : Supply)
    : Type 0 where
  pub bytes : List ℕ
  pub taken : Gives left rest bytes
  pub ends : (status ≡ Done) ⊎ ((status ≡ ReadFault) ⊎ (status ≡ TooLong))
  pub whole : status ≡ Done → IsAllLeft left bytes × (read ≡ plan_of words bytes)
  pub past : status ≡ TooLong → length bytes ≡ SOURCE_BYTES + 1
  pub limit : status ≢ TooLong → length bytes ≤ SOURCE_BYTES
