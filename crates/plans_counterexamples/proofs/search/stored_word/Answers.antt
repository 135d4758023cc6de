use Rattle.std.proofs.Common.{sym, ◌∙◌}
use Rattle.std.specs.Prelude.{length}
use Rattle.plans_counterexamples.specs.Search.{by_producer, stored_word}
use Rattle.plans_counterexamples.proofs.SearchLemmas.{first_none, first_some, first_end}
use Rattle.plans_counterexamples.proofs.search.stored_word.Goals as goal

pub returns-in-Some : goal.returns-in-Some
unfolding stored_word
returns-in-Some c = first_some (by_producer c.args.rule c.args.producers.now c.args.terms c.args.plan.now c.args.word c.args.at) c.loop-producer.producer
    (length c.args.producers.now) _ _ c.loop-producer-test.true
    (sym c.in-Some.is ∙ c.by_producer.ensures) c.loop-producer.invariant

pub loop-producer-preserved : goal.loop-producer-preserved
loop-producer-preserved c = first_none (by_producer c.args.rule c.args.producers.now c.args.terms c.args.plan.now c.args.word c.args.at)
    c.loop-producer.producer (length c.args.producers.now) _ c.loop-producer-test.true
    (sym c.in-None.is ∙ c.by_producer.ensures) c.loop-producer.invariant

pub returns : goal.returns
unfolding stored_word
returns c = first_end (by_producer c.args.rule c.args.producers.now c.args.terms c.args.plan.now c.args.word c.args.at) c.loop-producer.producer
    (length c.args.producers.now) _ c.loop-producer-test.false
    c.loop-producer.invariant
