use Rattle.std.proofs.Common.{sym, ◌∙◌}
use Rattle.plans_tests.proofs.uses.what_is_accepted_of_pauses.Goals as goal

pub returns-clause-moved : goal.returns-clause-moved
returns-clause-moved c = λ refused. sym c.who_is_paused_stores_nothing.ensures.moved ∙ refused

pub returns-clause-switched : goal.returns-clause-switched
returns-clause-switched c = λ refused. sym c.who_is_paused_stores_nothing.ensures.switched ∙ refused

pub returns-clause-behind : goal.returns-clause-behind
returns-clause-behind c = λ refused. sym c.who_is_paused_stores_nothing.ensures.behind ∙ refused

pub returns-clause-put : goal.returns-clause-put
returns-clause-put c = λ refused. sym c.who_is_paused_stores_nothing.ensures.put ∙ refused

pub returns-clause-freed : goal.returns-clause-freed
returns-clause-freed c = λ refused. sym c.who_is_paused_stores_nothing.ensures.freed ∙ refused

pub returns-clause-taken_back : goal.returns-clause-taken_back
returns-clause-taken_back c = λ refused. sym c.who_is_paused_stores_nothing.ensures.taken_back ∙ refused
