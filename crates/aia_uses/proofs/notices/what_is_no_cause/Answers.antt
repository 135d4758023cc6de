use Rattle.aia_uses.proofs.notices.what_is_no_cause.Goals as goal

pub returns-clause-began : goal.returns-clause-began
returns-clause-began c = λ h move g cause. cause

pub returns-clause-delivered : goal.returns-clause-delivered
returns-clause-delivered c = λ h msi g cause. cause

pub returns-clause-entered : goal.returns-clause-entered
returns-clause-entered c = λ h vm vcpu g cause. cause.asks
