use Rattle.aia_vcpu.proofs.PlanLemmas.{plan_agrees, plan-length, listed}
use Rattle.aia_vcpu.proofs.laws.plans_agree.Goals as goal

pub returns-clause-table : goal.returns-clause-table
returns-clause-table c = plan_agrees

pub returns-clause-list : goal.returns-clause-list
returns-clause-list c = listed

pub returns-clause-steps : goal.returns-clause-steps
returns-clause-steps c = plan-length
