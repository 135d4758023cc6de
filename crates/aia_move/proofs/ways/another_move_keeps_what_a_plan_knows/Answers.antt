use Rattle.aia_move_values.specs.PlanState.{moving_of}
use Rattle.aia_move_values.proofs.KnowsLemmas.{InPhase}
use Rattle.aia_move_values.proofs.WayFrames.{so_of, all_of}
use Rattle.aia_move_values.proofs.WayMoves.{other_step}
use Rattle.aia_move_values.proofs.WayTargets.{other_aimed}
use Rattle.aia_move.proofs.ways.another_move_keeps_what_a_plan_knows.Goals as goal

pub returns-clause-step : goal.returns-clause-step
returns-clause-step c = λ w map plan other reach led file theirs saw seen whole apart two within fine all knows differs files landed u hand first
    step. all_of u map plan _ _ saw
    (other_step w map (InPhase plan) (moving_of plan) other reach led file theirs saw seen whole apart two within fine
    (so_of w map plan reach file saw all) knows differs files landed u hand first step)

pub returns-clause-aim : goal.returns-clause-aim
returns-clause-aim c = other_aimed
