use Rattle.plans_tests.proofs.uses.what_the_host_is_told.Goals as goal

pub returns : goal.returns
returns c = λ d plan start run i memory accepted begins steps others inside out.
    c.the_rules_tell_the_host.ensures d plan memory accepted start run begins (record { steps = steps; others = others }) i inside out
