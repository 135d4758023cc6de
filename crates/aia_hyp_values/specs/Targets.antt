-- When the targets of wired sources stand for a history, beside the core. Profile: passes.
use Rattle.std.specs.Prelude.{◌≡◌, ℕ, ◌<◌, true, length, None}
use Rattle.std.specs.Int.{is_in_range}
use Rattle.aia_move_values.specs.Targets.{TargetMap}
use Rattle.aia_model.specs.Act.{act_of}
use Rattle.aia_model.specs.Sent.{acts_of}
use Rattle.aia_model.specs.Passable.{is_passable}
use Rattle.aia_model.specs.Event.{Event, History, harts_of, sources_of}
use Rattle.aia_model.specs.Event.Event.{Accepted}
use Rattle.aia_model.specs.Passes.{passes_of, nth_pass}
use Rattle.aia_model.specs.Aim.{pass_reach, target_for}
use Rattle.aia_hyp_values.specs.Core.{CoreState}
use Rattle.aia_hyp_values.specs.Stands.{CoreStands}

-- The targets are those of a history's machine. They tell of each source that is there whether MSIs
-- to guests may be made of it; each that is passed is ready, and its target is that of the place
-- where its pass leads.
pub record TargetsStand (map : TargetMap) (h : History) : Type 0 where
  pub harts : map.harts ≡ harts_of h
  pub tells : (s : ℕ) → is_in_range 1 (sources_of h) s ≡ true
      → map.ready s ≡ is_passable (acts_of h) s
  pub ready : (p : ℕ) → p < length (passes_of h) → map.ready (nth_pass h p).source ≡ true
  pub aimed : (p : ℕ) → p < length (passes_of h) → map.target (nth_pass h p).source
      ≡ target_for h p (nth_pass h p).to (nth_pass h p).identity (pass_reach h p)

-- The core and the targets beside it stand for a history, both.
pub record StandsWith (x : CoreState) (map : TargetMap) (h : History) : Type 0 where
  pub core : CoreStands x h
  pub targets : TargetsStand map h

-- An event is nothing to the APLIC, but for what it aims.
abbrev pub LeavesTheAplic : Event → Type 0
LeavesTheAplic (Accepted line) = act_of line ≡ None
LeavesTheAplic event = Unit {0}
