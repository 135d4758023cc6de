use Rattle.aia_vcpu.proofs.PlanLemmas.{next_in_plan, one_a_step}
use Rattle.aia_vcpu.proofs.laws.a_step_makes_one_access.Goals as goal

pub returns-clause-next : goal.returns-clause-next
returns-clause-next c = next_in_plan

pub returns-clause-one : goal.returns-clause-one
returns-clause-one c = one_a_step
