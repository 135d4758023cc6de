-- The phase that a plan is in, as its code has it, and as the type of a state tells it.
use Rattle.std.specs.Prelude.{Option, Some, None}
use Rattle.aia_vcpu.specs.Phases.{Phase}
use Rattle.aia_vcpu.specs.Phases.Phase.{FirstPhase, ClosingPhase, DrainPhase, EnablePhase, LookPhase, LastPhase}
use Rattle.aia_move_values.specs.Move.{Moving}
use Rattle.aia_move.specs.declared.phase.PlanPhase.{PlanPhase}
use Rattle.aia_move.specs.declared.phase.PlanPhase.TheVariants as phases
use Rattle.aia_move.specs.declared.plan.Course.{Course}
use Rattle.aia_move.specs.declared.plan.Course.TheVariants as courses
use Rattle.aia_move.specs.declared.plan.State.{State}
use Rattle.aia_move.specs.declared.plan.State.TheVariants as states
use Rattle.aia_move_values.specs.PlanState.{PlanState}

-- The move.
abbrev pub move_of : Course → Moving
move_of (courses.Leave m) = m
move_of (courses.Arrive m) = m
move_of (courses.Shift m) = m

-- The phase, of those whose steps are accesses.
abbrev pub phase_at : PlanPhase → Option Phase
phase_at phases.First = Some FirstPhase
phase_at phases.Closing = Some ClosingPhase
phase_at phases.Aim = None
phase_at phases.Drain = Some DrainPhase
phase_at phases.Enable = Some EnablePhase
phase_at phases.Look = Some LookPhase
phase_at phases.Last = Some LastPhase

-- The plan of which a state is.
abbrev pub plan_of : State → PlanState
plan_of (states.LeaveFirst m) = record { moving = m; phase = Some FirstPhase }
plan_of (states.LeaveClosing m) = record { moving = m; phase = Some ClosingPhase }
plan_of (states.LeaveAim m) = record { moving = m; phase = None }
plan_of (states.LeaveDrain m) = record { moving = m; phase = Some DrainPhase }
plan_of (states.LeaveEnable m) = record { moving = m; phase = Some EnablePhase }
plan_of (states.LeaveLook m) = record { moving = m; phase = Some LookPhase }
plan_of (states.LeaveLast m) = record { moving = m; phase = Some LastPhase }
plan_of (states.ArriveFirst m) = record { moving = m; phase = Some FirstPhase }
plan_of (states.ArriveClosing m) = record { moving = m; phase = Some ClosingPhase }
plan_of (states.ArriveAim m) = record { moving = m; phase = None }
plan_of (states.ArriveDrain m) = record { moving = m; phase = Some DrainPhase }
plan_of (states.ArriveEnable m) = record { moving = m; phase = Some EnablePhase }
plan_of (states.ArriveLast m) = record { moving = m; phase = Some LastPhase }
plan_of (states.ShiftFirst m) = record { moving = m; phase = Some FirstPhase }
plan_of (states.ShiftClosing m) = record { moving = m; phase = Some ClosingPhase }
plan_of (states.ShiftAim m) = record { moving = m; phase = None }
plan_of (states.ShiftDrain m) = record { moving = m; phase = Some DrainPhase }
plan_of (states.ShiftEnable m) = record { moving = m; phase = Some EnablePhase }
plan_of (states.ShiftLast m) = record { moving = m; phase = Some LastPhase }
