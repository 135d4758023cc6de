use Rattle.std.proofs.Common.{sym, length, ◌∙◌}
use Rattle.plans_counterexamples.specs.UntoldSearch.{stored_by}
use Rattle.plans_counterexamples.proofs.SearchLemmas.{first_none, first_some, first_end}
use Rattle.plans_counterexamples.proofs.untold_search.stored_any.Goals as goal

pub returns-in-Some-clause-exact : goal.returns-in-Some-clause-exact
returns-in-Some-clause-exact c = first_some (stored_by c.args.producers.now c.args.terms c.args.plan.now c.args.word) c.loop-producer.producer
    (length c.args.producers.now) _ _ c.loop-producer-test.true (sym c.in-Some.is ∙ c.stored_by.ensures.exact) c.loop-producer.invariant

pub loop-producer-preserved : goal.loop-producer-preserved
loop-producer-preserved c = first_none (stored_by c.args.producers.now c.args.terms c.args.plan.now c.args.word) c.loop-producer.producer
    (length c.args.producers.now) _ c.loop-producer-test.true (sym c.in-None.is ∙ c.stored_by.ensures.exact) c.loop-producer.invariant

pub returns-clause-exact : goal.returns-clause-exact
returns-clause-exact c = first_end (stored_by c.args.producers.now c.args.terms c.args.plan.now c.args.word) c.loop-producer.producer
    (length c.args.producers.now) _ c.loop-producer-test.false c.loop-producer.invariant
