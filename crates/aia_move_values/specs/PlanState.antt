-- A plan, as clauses see it.
use Rattle.std.specs.Prelude.{Option}
use Rattle.aia_vcpu.specs.Phases.{Phase}
use Rattle.aia_move_values.specs.Move.{Moving}

-- A move under way, and the phase that it is in, of those whose steps are accesses; None: it is in
-- the phase of aims.
pub record PlanState : Type 0 where
  pub moving : Moving
  pub phase : Option Phase

abbrev pub moving_of : PlanState → Moving
moving_of plan = plan.moving

abbrev pub phase_of : PlanState → Option Phase
phase_of plan = plan.phase
