use Rattle.aia_tests.proofs.NineFacts.{nine_shown}
use Rattle.aia_tests.proofs.files.OnlyNineLooks.pair.Goals as goal

pub returns-clause-pending_word : goal.returns-clause-pending_word
returns-clause-pending_word g c = nine_shown c.args._k c.requires

pub returns-clause-enable_word : goal.returns-clause-enable_word
returns-clause-enable_word g c = nine_shown c.args._k c.requires
