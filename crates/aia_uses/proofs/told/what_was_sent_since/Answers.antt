use Rattle.std.proofs.lemmas.Bool.{and_from}
use Rattle.aia_vcpu.specs.Vms.{notice_hart, notice_identity}
use Rattle.aia_model.specs.Vms.{vms_of}
use Rattle.aia_model.specs.FileOf.{SupervisorFile}
use Rattle.aia_uses.proofs.SinceLemmas.{noticed_shown, told_shown}
use Rattle.aia_uses.proofs.told.what_was_sent_since.Goals as goal

pub returns-clause-sent : goal.returns-clause-sent
returns-clause-sent c = λ h g i good parked pending enabled.
    noticed_shown h g i (c.no_notice_is_lost.ensures.sent h g i good parked (and_from _ _ pending enabled))

pub returns-clause-told : goal.returns-clause-told
returns-clause-told c = λ h g i good parked pending enabled.
    told_shown h (SupervisorFile (notice_hart (vms_of h) g)) (notice_identity (vms_of h) g) g i
    (c.no_notice_is_lost.ensures.told h g i good parked (and_from _ _ pending enabled))
