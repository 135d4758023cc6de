use Rattle.aia_aplic_values.proofs.Steps.{source-idle}
use Rattle.aia_aplic_values.proofs.laws.what_is_not_active_is_zero.Goals as goal

pub returns-clause-pending : goal.returns-clause-pending
returns-clause-pending c = λ past d s. (source-idle past d s).pending

pub returns-clause-enabled : goal.returns-clause-enabled
returns-clause-enabled c = λ past d s. (source-idle past d s).enabled

pub returns-clause-target : goal.returns-clause-target
returns-clause-target c = λ past d s. (source-idle past d s).target
