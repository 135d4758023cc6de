use Rattle.aia_move_values.specs.PlanState.{moving_of}
use Rattle.aia_move_values.proofs.KnowsLemmas.{InPhase}
use Rattle.aia_move_values.proofs.WayFrames.{so_of, all_of}
use Rattle.aia_move_values.proofs.WayKnows.{device_all, peer_all, sent_all, landed_all, taken_all}
use Rattle.aia_move_values.proofs.WayForwards.{forward_all, relay_all}
use Rattle.aia_move.proofs.ways.every_store_keeps_what_a_plan_knows.Goals as goal

pub returns-clause-device : goal.returns-clause-device
returns-clause-device c = λ w u map plan reach file saw whole apart within all v addr value s. all_of u map plan _ _ saw
    (device_all w u map (InPhase plan) (moving_of plan) reach file saw whole apart within (so_of w map plan reach file saw all) v addr value s)

pub returns-clause-peer : goal.returns-clause-peer
returns-clause-peer c = λ w u map plan reach file saw whole apart within all g value there s. all_of u map plan _ _ saw
    (peer_all w u map (InPhase plan) (moving_of plan) reach file saw whole apart within (so_of w map plan reach file saw all) g value there s)

pub returns-clause-sent : goal.returns-clause-sent
returns-clause-sent c = λ w map plan reach file saw all u v addr value s. all_of u map plan _ _ saw
    (sent_all w map (InPhase plan) (moving_of plan) reach file saw (so_of w map plan reach file saw all) u v addr value s)

pub returns-clause-landed : goal.returns-clause-landed
returns-clause-landed c = λ w u map plan reach file saw whole apart within all v k l. all_of u map plan _ _ saw
    (landed_all w u map (InPhase plan) (moving_of plan) reach file saw whole apart within (so_of w map plan reach file saw all) v k l)

pub returns-clause-forwarded : goal.returns-clause-forwarded
returns-clause-forwarded c = λ w u map plan reach file saw whole apart within all r low p offset value leads s. all_of u map plan _ _ saw
    (forward_all w u map (InPhase plan) (moving_of plan) reach file saw whole apart within (so_of w map plan reach file saw all) r low p offset
    value leads s)

pub returns-clause-relayed : goal.returns-clause-relayed
returns-clause-relayed c = λ w u map plan reach file saw whole apart within all r low value leads s. all_of u map plan _ _ saw
    (relay_all w u map (InPhase plan) (moving_of plan) reach file saw whole apart within (so_of w map plan reach file saw all) r low value leads s)

pub returns-clause-taken : goal.returns-clause-taken
returns-clause-taken c = λ w map plan reach file saw all u v k e. all_of u map plan _ _ saw
    (taken_all w map (InPhase plan) (moving_of plan) reach file saw (so_of w map plan reach file saw all) u v k e)
