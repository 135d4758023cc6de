use Rattle.std.proofs.Common.{ap, length}
use Rattle.plans_tests.proofs.uses.what_is_refused_though_it_tells.Goals as goal

pub returns-clause-broken : goal.returns-clause-broken
returns-clause-broken c = ap (λ rules. length rules) c.the_rule_on_notices_asks_for_more.ensures.broken

pub returns-clause-told : goal.returns-clause-told
returns-clause-told c = λ start run i begins steps others inside out. c.the_rule_on_notices_asks_for_more.ensures.told start run begins
    (record { steps = steps; others = others }) i inside out
