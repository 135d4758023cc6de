use Rattle.aia_tests.proofs.NineFacts.{nine_summarized, nine_fits}
use Rattle.aia_tests.proofs.files.OnlyNineLooks.summary.Goals as goal

pub returns-clause-summary : goal.returns-clause-summary
returns-clause-summary g c = nine_summarized

pub returns-clause-pending_range : goal.returns-clause-pending_range
returns-clause-pending_range g c = nine_fits

pub returns-clause-enabled_range : goal.returns-clause-enabled_range
returns-clause-enabled_range g c = nine_fits
