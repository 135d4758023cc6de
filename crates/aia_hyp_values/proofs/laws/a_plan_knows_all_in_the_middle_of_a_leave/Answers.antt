use Rattle.aia_hyp_values.proofs.ExampleWays.{flying_known, example_targets_stand, flying_shut, own_lands, other_lands, stayer_rests}
use Rattle.aia_hyp_values.proofs.laws.a_plan_knows_all_in_the_middle_of_a_leave.Goals as goal

pub returns-clause-knows : goal.returns-clause-knows
returns-clause-knows c = flying_known

pub returns-clause-targets : goal.returns-clause-targets
returns-clause-targets c = example_targets_stand

pub returns-clause-shut : goal.returns-clause-shut
returns-clause-shut c = flying_shut

pub returns-clause-own : goal.returns-clause-own
returns-clause-own c = own_lands

pub returns-clause-other : goal.returns-clause-other
returns-clause-other c = other_lands

pub returns-clause-rests : goal.returns-clause-rests
returns-clause-rests c = stayer_rests
