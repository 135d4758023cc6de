use Rattle.std.proofs.lemmas.Bool.{and_from}
use Rattle.aia_vcpu.specs.Vms.{notice_hart, notice_identity}
use Rattle.aia_model.specs.Vms.{vms_of}
use Rattle.aia_model.specs.FileOf.{SupervisorFile}
use Rattle.aia_uses.proofs.SinceLemmas.{none_cleared, none_after_notice}
use Rattle.aia_uses.proofs.told.what_the_host_sees_then.Goals as goal

pub returns-clause-newest : goal.returns-clause-newest
returns-clause-newest c = λ h g i good parked pending enabled none.
    c.the_host_sees_a_notice_until_it_clears_it.ensures.newest h g i good parked (and_from _ _ pending enabled)
    (none_after_notice h (SupervisorFile (notice_hart (vms_of h) g)) (notice_identity (vms_of h) g) g none)

pub returns-clause-since : goal.returns-clause-since
returns-clause-since c = λ h g i good parked pending enabled none.
    c.the_host_sees_a_notice_until_it_clears_it.ensures.since h g i good parked (and_from _ _ pending enabled)
    (none_cleared h (SupervisorFile (notice_hart (vms_of h) g)) (notice_identity (vms_of h) g) g i none)
