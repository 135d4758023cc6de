use Rattle.std.proofs.Common.{sym, ◌∙◌}
use Rattle.plans_tests.proofs.uses.what_is_accepted_of_notices.Goals as goal

pub returns-clause-unset : goal.returns-clause-unset
returns-clause-unset c = λ refused. sym c.where_notices_go_is_written_first.ensures.unset ∙ refused

pub returns-clause-set : goal.returns-clause-set
returns-clause-set c = λ refused. sym c.where_notices_go_is_written_first.ensures.set ∙ refused
