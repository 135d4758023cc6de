use Rattle.std.proofs.Common.{sym, ap, length, ◌∙◌}
use Rattle.plans_tests.proofs.uses.what_is_accepted_of_copies.Goals as goal

pub returns-clause-told : goal.returns-clause-told
returns-clause-told c = λ refused. sym c.what_stands_in_the_new_place_may_be_told_of.ensures.told ∙ refused

pub returns-clause-again : goal.returns-clause-again
returns-clause-again c = ap (λ rules. length rules) c.what_stands_in_the_new_place_may_be_told_of.ensures.again.0
