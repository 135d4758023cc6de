use Rattle.aia_aplic_values.proofs.SendingLemmas.{aim_waits}
use Rattle.aia_aplic_values.proofs.AimSteps.{aim_targets}
use Rattle.aia_aplic_values.proofs.laws.an_aim_makes_nothing_wait.Goals as goal

pub returns-clause-senders : goal.returns-clause-senders
returns-clause-senders c = λ past s v. aim_waits s v past

pub returns-clause-target : goal.returns-clause-target
returns-clause-target c = aim_targets
