use Rattle.aia_vcpu.proofs.PassLemmas.{further_aimed, pass_lands, pass_drained, aim_is_no_fence}
use Rattle.aia_vcpu.proofs.laws.passes_lead_where_they_may.Goals as goal

pub returns-clause-step : goal.returns-clause-step
returns-clause-step c = further_aimed

pub returns-clause-lands : goal.returns-clause-lands
returns-clause-lands c = pass_lands

pub returns-clause-drained : goal.returns-clause-drained
returns-clause-drained c = pass_drained

pub returns-clause-no_fence : goal.returns-clause-no_fence
returns-clause-no_fence c = aim_is_no_fence
