-- The phases of the plans. Profile: all plans.
use Rattle.std.specs.Prelude.{ℕ, Bool, nat_le, if◌then◌else◌}
use Rattle.aia_vcpu.specs.declared.end.End.{End}
use Rattle.aia_vcpu.specs.Home.{is_file, Home, old_end, new_end}
use Rattle.aia_vcpu.specs.declared.end.End.TheVariants.{File, Memory}
use Rattle.aia_vcpu.specs.Home.Home.{OnWay}
use Rattle.aia_vcpu.specs.Plans.{plan_steps, plan_step, steps_done}
use Rattle.aia_vcpu.specs.declared.access.Access.TheVariants.{Map, TakePending, TakeEnables, Look, TakeThreshold}

-- The phases, in order. Only a leave has looks.
pub data Phase : Type 0 where
  -- the old file is made silent, and the entry leads to the new place
  FirstPhase : Phase
  -- so does the G-stage record
  ClosingPhase : Phase
  -- passed sources are aimed and the pending set is carried, then the enabled set is
  DrainPhase : Phase
  EnablePhase : Phase
  -- both sets are looked at in memory
  LookPhase : Phase
  -- the numbers are carried, and the notice is sent
  LastPhase : Phase
  -- all steps are done
  AllDone : Phase

-- The phase after a phase, as a leave has them.
abbrev pub following : Phase → Phase
following FirstPhase = ClosingPhase
following ClosingPhase = DrainPhase
following DrainPhase = EnablePhase
following EnablePhase = LookPhase
following LookPhase = LastPhase
following phase = AllDone

-- How many steps are done as a phase of a plan begins, of files of so many words: all those before
-- its first access. Where a plan has no looks LookPhase begins where LastPhase does, and no step is
-- in it. LastPhase begins where the threshold of an old file is taken, or would be.
abbrev pub phase_begins : End → End → ℕ → Phase → ℕ
phase_begins from to words FirstPhase = 0
phase_begins from to words ClosingPhase = plan_step from to words Map
phase_begins from to words DrainPhase = plan_step from to words (TakePending 0)
phase_begins from to words EnablePhase = plan_step from to words (TakeEnables 0)
phase_begins from Memory words LookPhase = plan_step from Memory words (Look 0)
phase_begins from File words LookPhase = plan_step from File words TakeThreshold
phase_begins from to words LastPhase = plan_step from to words TakeThreshold
phase_begins from to words AllDone = plan_steps from to words

abbrev pub begins : ℕ → Home → Phase → ℕ
begins words (OnWay way at) phase = phase_begins (old_end way) (new_end way) words phase
begins words there phase = 0

-- Which phase comes after those that all plans share: only a leave has looks.
abbrev pub after_shared : Home → Phase
after_shared (OnWay way at) = if is_file (new_end way) then LastPhase else LookPhase
after_shared there = LastPhase

-- Whether a move has come to a phase: it is in it, or past it. Of a home at rest it says nothing.
abbrev pub has_come : ℕ → Home → Phase → Bool
has_come words there phase = nat_le (begins words there phase) (steps_done there)
