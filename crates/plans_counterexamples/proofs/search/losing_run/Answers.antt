use Rattle.plans_counterexamples.proofs.FoundLemmas.{FoundLoses, if_some_found, scope_loses}
use Rattle.plans_counterexamples.proofs.search.losing_run.Goals as goal

pub returns-clause-loses : goal.returns-clause-loses
returns-clause-loses c = if_some_found (FoundLoses c.args.producers.now c.args.terms c.args.plan.now) _ _ c.found_in.ensures
    (scope_loses c.args.rule c.args.producers.now c.args.terms c.args.plan.now _ _)
