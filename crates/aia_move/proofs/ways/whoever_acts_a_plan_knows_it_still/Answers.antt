use Rattle.aia_move_values.specs.PlanState.{moving_of}
use Rattle.aia_move_values.proofs.KnowsLemmas.{InPhase}
use Rattle.aia_move_values.proofs.WayFrames.{so_of, all_of}
use Rattle.aia_fabric_values.specs.Changes.{with_fence}
use Rattle.aia_move_values.proofs.WayFences.{fetched_all, fenced_all}
use Rattle.aia_move_values.proofs.WayMoves.{slot_all, file_all}
use Rattle.aia_move.proofs.ways.whoever_acts_a_plan_knows_it_still.Goals as goal

pub returns-clause-refetched : goal.returns-clause-refetched
returns-clause-refetched c = λ w g map plan reach file saw whole there all. all_of (with_fence w g.vm g.vcpu) map plan _ _ saw
    (fetched_all w g map (InPhase plan) (moving_of plan) reach file saw whole there (so_of w map plan reach file saw all))

pub returns-clause-fenced : goal.returns-clause-fenced
returns-clause-fenced c = λ w u g map plan reach file saw whole apart within there all f. all_of u map plan _ _ saw
    (fenced_all w u g map (InPhase plan) (moving_of plan) reach file saw whole apart within there (so_of w map plan reach file saw all) f)

pub returns-clause-slot : goal.returns-clause-slot
returns-clause-slot c = λ w u map plan reach file saw all q threshold deed low other done. all_of u map plan _ _ saw
    (slot_all w u map (InPhase plan) (moving_of plan) reach file saw (so_of w map plan reach file saw all) q threshold deed low other done)

pub returns-clause-file : goal.returns-clause-file
returns-clause-file c = λ w u map plan reach file saw all spot there other changed. all_of u map plan _ _ saw
    (file_all w u map (InPhase plan) (moving_of plan) reach file saw (so_of w map plan reach file saw all) spot there other changed)
