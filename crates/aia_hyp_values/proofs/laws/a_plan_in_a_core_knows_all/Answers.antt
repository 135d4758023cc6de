use Rattle.aia_hyp_values.proofs.WaysInCore.{plan_ways, all_in_core}
use Rattle.aia_hyp_values.proofs.laws.a_plan_in_a_core_knows_all.Goals as goal

pub returns-clause-ways : goal.returns-clause-ways
returns-clause-ways c = λ x h g plan stands whole there was. plan_ways x h g plan stands whole there was

pub returns-clause-all : goal.returns-clause-all
returns-clause-all c = λ x map h g plan good stands whole there was. all_in_core x h g plan stands.core whole there was map good stands.targets
