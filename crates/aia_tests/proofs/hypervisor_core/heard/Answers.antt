use Rattle.aia_tests.proofs.CoreFacts.{may_hear}
use Rattle.aia_tests.proofs.hypervisor_core.heard.Goals as goal

pub deliver-requires : goal.deliver-requires
deliver-requires c = may_hear _ _ _ c.notices-some.ensures.stands
