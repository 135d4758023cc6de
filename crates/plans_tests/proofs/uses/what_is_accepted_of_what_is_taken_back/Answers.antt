use Rattle.std.proofs.Common.{sym, ap, length, ◌∙◌}
use Rattle.plans_tests.proofs.uses.what_is_accepted_of_what_is_taken_back.Goals as goal

pub returns-clause-first : goal.returns-clause-first
returns-clause-first c = λ refused. sym c.what_was_told_is_taken_back_first.ensures.first ∙ refused

pub returns-clause-late : goal.returns-clause-late
returns-clause-late c = ap (λ rules. length rules) c.what_was_told_is_taken_back_first.ensures.late.0

pub returns-clause-unstored : goal.returns-clause-unstored
returns-clause-unstored c = λ refused. sym c.what_was_told_is_taken_back_first.ensures.unstored ∙ refused

pub returns-clause-unposted : goal.returns-clause-unposted
returns-clause-unposted c = ap (λ rules. length rules) c.what_was_told_is_taken_back_first.ensures.unposted.0
