-- When a machine, and the engine, stand for a history: the core for the history, the APLIC for the
-- past that the history is to it. Vocabulary.
use Rattle.std.specs.Prelude.{◌≡◌, true, false, [], Option, Some, None, MatchOption}
use Rattle.aia_model.specs.declared.answer.Answer.{Answer}
use Rattle.aia_model.specs.declared.line.Line.{Line}
use Rattle.aia_model.specs.declared.parsed.Parsed.{Parsed}
use Rattle.aia_model.specs.declared.parsed.Parsed.TheVariants as parsed
use Rattle.aia_model.specs.Event.{History}
use Rattle.aia_model.specs.Act.{Past, act_of}
use Rattle.aia_model.specs.Move.{LineDeed, line_deed}
use Rattle.aia_model.specs.Move.LineDeed.{NoMove}
use Rattle.aia_model.specs.Event.Event.{Accepted}
use Rattle.aia_model.specs.Aim.{aimed_by}
use Rattle.aia_model.specs.Histories.{IsHistory}
use Rattle.aia_model.specs.PassesStand.{AreForwards}
use Rattle.aia_model.specs.declared.sender.Sender.{Sender}
use Rattle.aia_model.specs.Sent.{with_act, acts_of, senders, with_all_sent, waiting_msis}
use Rattle.aia_model.specs.Refusal.{refusal, makes_machine}
use Rattle.aia_model.specs.Answer.{answer, after, line_taken, delivered}
use Rattle.aia_model.specs.Script.{text_answer, after_text}
use Rattle.aia_hyp_values.specs.Stands.{CoreStands, line_served}
use Rattle.aia_aplic_values.specs.Aplic.{AplicStands}
use Rattle.aia_aplic_values.specs.Sending.{does_wait}
use Rattle.aia_replay.specs.declared.machine.Machine.{Machine}

-- ---- a machine

-- The core stands for a history, the APLIC for a past; while MSIs wait, that past is not yet
-- `acts_of` of the history.
pub record MachineHolds (m : Machine) (h : History) (past : Past) : Type 0 where
  pub core : CoreStands m.core h
  pub aplic : AplicStands m.wires.aplic past

-- All of it stands for the history, each of whose events may happen.
pub record MachineStands (m : Machine) (h : History) : Type 0 where
  pub holds : MachineHolds m h (acts_of h)
  pub happens : IsHistory h

pub record EngineStandsForSome (m : Machine) : Type 0 where
  pub past : History
  pub stands : MachineStands m past

-- What has happened to the APLIC when a line is accepted, and its MSIs are still to be sent: of a
-- line about moves what its steps aim, of a landing nothing, of any other line what it aims, then
-- what it is to the APLIC.
abbrev pub acts_by : LineDeed → History → Line → Past
acts_by NoMove h line =
    with_act (act_of line) (with_act (aimed_by h (Accepted line)) (acts_of h))
acts_by deed h line = acts_of (line_taken h line)

-- The same of a line that is refused or not.
abbrev pub act_taken : Option Answer → History → Line → Past
act_taken None h line = acts_by (line_deed line) h line
act_taken (Some word) h line = acts_of h

-- A machine answers a line as the model does, and holds what the line itself makes of it.
pub record MachineTakes (old new : Machine) (line : Line) (given : Answer) : Type 0 where
  pub answers : (h : History) → MachineStands old h → given ≡ answer h line
  pub takes : (h : History) → MachineStands old h
      → MachineHolds new (line_served (refusal h line) h line) (act_taken (refusal h line) h line)

-- All MSIs that wait may be delivered: those of passed sources go as their passes lead.
pub record CanDeliver (m : Machine) (h : History) (past : Past) : Type 0 where
  pub holds : MachineHolds m h past
  pub happens : IsHistory h
  pub forwards : AreForwards h (waiting_msis past)

pub record CanDeliverSome (m : Machine) : Type 0 where
  pub events : History
  pub acts : Past
  pub can : CanDeliver m events acts

-- A line that, where it is accepted, has no MSI wait: none waited before it, as before any line.
abbrev pub SendsNone : Line → Type 0
SendsNone line = (h : History) → senders (act_taken None h line) ≡ []

-- No MSI waits in a machine.
abbrev pub NoneWaits : Machine → Type 0
NoneWaits m = (sender : Sender) → does_wait m.wires.aplic sender ≡ false

-- All MSIs that wait are delivered.
abbrev pub Delivers : Machine → Machine → Type 0
Delivers old new =
    (h : History) (past : Past) → CanDeliver old h past
    → MachineHolds new (delivered (waiting_msis past) h) (with_all_sent past)

-- A machine answers a line as the model does, and stands for the history after it.
pub record MachineServes (old new : Machine) (line : Line) (given : Answer) : Type 0 where
  pub answers : (h : History) → MachineStands old h → given ≡ answer h line
  pub stands : (h : History) → MachineStands old h → MachineStands new (after h line)

-- ---- the engine

-- What an engine keeps: a machine, where one stands.
abbrev pub EngineState : Type 0
EngineState = Option Machine

-- An engine stands for a history: with no machine only for the empty history.
abbrev pub StandsFor : EngineState → History → Type 0
StandsFor machine h = MatchOption machine (h ≡ []) (λ m. MachineStands m h)

-- A machine that stands does so for some history.
abbrev pub IsSound : EngineState → Type 0
IsSound None = Unit {0}
IsSound (Some m) = EngineStandsForSome m

-- The engine answers a line as the model does, and stands for the history after it.
pub record Serves (old new : EngineState) (line : Line) (given : Answer) : Type 0 where
  pub answers : (h : History) → StandsFor old h → given ≡ answer h line
  pub stands : (h : History) → StandsFor old h → StandsFor new (after h line)

-- The same of a text, by what it reads as.
pub record ServesText (old new : EngineState) (text : Parsed) (given : Option Answer) : Type 0 where
  pub answers : (h : History) → StandsFor old h → given ≡ text_answer h text
  pub stands : (h : History) → StandsFor old h → StandsFor new (after_text h text)

-- The line is a `machine` line that is accepted: the one kind of line that takes memory.
abbrev pub WantsMachine : EngineState → Line → Type 0
WantsMachine engine line = (h : History) → StandsFor engine h → makes_machine h line ≡ true

-- The text reads as such a line.
abbrev pub ReadsAsMachine : EngineState → Parsed → Type 0
ReadsAsMachine engine (parsed.Line line) = WantsMachine engine line
ReadsAsMachine engine parsed.Skip = ⊥
ReadsAsMachine engine parsed.Bad = ⊥
