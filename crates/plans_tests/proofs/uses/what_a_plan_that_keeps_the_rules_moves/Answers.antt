use Rattle.plans_tests.proofs.uses.what_a_plan_that_keeps_the_rules_moves.Goals as goal

pub returns-clause-pending : goal.returns-clause-pending
returns-clause-pending c = λ d plan start run i keeps begins steps others inside.
    (c.the_rules_are_exact.ensures.safe d plan keeps start run begins (record { steps = steps; others = others })).pending i inside

pub returns-clause-enabled : goal.returns-clause-enabled
returns-clause-enabled c = λ d plan start run i keeps begins steps others inside.
    (c.the_rules_are_exact.ensures.safe d plan keeps start run begins (record { steps = steps; others = others })).enabled i inside

pub returns-clause-none_left : goal.returns-clause-none_left
returns-clause-none_left c = λ d plan start run s i keeps begins steps others inside.
    (c.the_rules_are_exact.ensures.safe d plan keeps start run begins (record { steps = steps; others = others })).none_left s i inside

pub returns-clause-led : goal.returns-clause-led
returns-clause-led c = λ d plan start run p keeps begins steps others producer.
    let moved = c.the_rules_are_exact.ensures.safe d plan keeps start run begins (record { steps = steps; others = others }) in
    (moved.written p producer, moved.in_force p producer, moved.strayed)
