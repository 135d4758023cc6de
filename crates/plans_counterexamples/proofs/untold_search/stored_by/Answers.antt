use Rattle.std.proofs.Common.{◌+◌, sym, length, ◌∙◌}
use Rattle.plans_counterexamples.specs.UntoldSearch.{stored_before, stored_by}
use Rattle.plans_counterexamples.proofs.SearchLemmas.{first_none, first_some, first_end}
use Rattle.plans_counterexamples.proofs.untold_search.stored_by.Goals as goal

pub returns-in-Some-clause-exact : goal.returns-in-Some-clause-exact
unfolding stored_by
returns-in-Some-clause-exact c = first_some (stored_before c.args.producers.now c.args.terms c.args.plan.now c.args.word c.args.producer)
    c.loop-before.before (length c.args.plan.now + 1) _ _ c.loop-before-test.true (sym c.in-Some.is ∙ c.stored_before.ensures.exact)
    c.loop-before.invariant

pub loop-before-preserved : goal.loop-before-preserved
loop-before-preserved c = first_none (stored_before c.args.producers.now c.args.terms c.args.plan.now c.args.word c.args.producer)
    c.loop-before.before (length c.args.plan.now + 1) _ c.loop-before-test.true (sym c.in-None.is ∙ c.stored_before.ensures.exact)
    c.loop-before.invariant

pub returns-clause-exact : goal.returns-clause-exact
unfolding stored_by
returns-clause-exact c = first_end (stored_before c.args.producers.now c.args.terms c.args.plan.now c.args.word c.args.producer)
    c.loop-before.before (length c.args.plan.now + 1) _ c.loop-before-test.false c.loop-before.invariant
