use Rattle.std.proofs.Common.{◌∙◌}
use Rattle.aia_tests.proofs.CoreFacts.{hart_there}
use Rattle.aia_tests.proofs.hypervisor_core.has_hart.Goals as goal

pub returns : goal.returns
returns c = c.is_ok.ensures.value ∙ hart_there _ _ _ c.notices-some.ensures.stands c.signals.ensures.value
