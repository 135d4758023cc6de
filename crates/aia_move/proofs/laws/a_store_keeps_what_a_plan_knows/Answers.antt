use Rattle.aia_regs.specs.declared.address_map.TheConstants.{PAGE}
use Rattle.std.specs.Prelude.{◌%◌}
use Rattle.aia_move_values.specs.PlanState.{moving_of}
use Rattle.aia_move_values.proofs.KnowsLemmas.{InPhase, of_plan, to_plan, device_knows, flight_knows, peer_knows, others_know, host_knows}
use Rattle.aia_move.proofs.laws.a_store_keeps_what_a_plan_knows.Goals as goal

pub returns-clause-device : goal.returns-clause-device
returns-clause-device c = λ w u plan reach file saw addr value whole apart within knows is names reaches. to_plan u plan reach _ saw
    (device_knows w u (InPhase plan) (moving_of plan) reach file saw (addr % PAGE) value whole apart within (of_plan w plan reach file saw knows)
    addr is names reaches)

pub returns-clause-peer : goal.returns-clause-peer
returns-clause-peer c = λ w u plan reach file saw value whole apart within knows reaches. to_plan u plan reach _ saw
    (peer_knows w u (InPhase plan) (moving_of plan) reach file saw value whole apart within (of_plan w plan reach file saw knows) reaches)

pub returns-clause-flight : goal.returns-clause-flight
returns-clause-flight c = λ w u plan reach place file saw offset value whole apart within knows may reaches. to_plan u plan reach _ saw
    (flight_knows w u (InPhase plan) (moving_of plan) reach place file saw offset value whole apart within (of_plan w plan reach file saw knows) may
    reaches)

pub returns-clause-others : goal.returns-clause-others
returns-clause-others c = λ w u plan reach file saw g place knows there other touches elsewhere. to_plan u plan reach file saw
    (others_know w u (InPhase plan) (moving_of plan) reach file saw g place (of_plan w plan reach file saw knows) there other touches elsewhere)

pub returns-clause-host : goal.returns-clause-host
returns-clause-host c = λ w u plan reach file saw spot offset value knows there guest stores. to_plan u plan reach file saw
    (host_knows w u (InPhase plan) (moving_of plan) reach file saw spot offset value (of_plan w plan reach file saw knows) there guest stores)
