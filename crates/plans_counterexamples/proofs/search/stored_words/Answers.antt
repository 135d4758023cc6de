use Rattle.std.proofs.Common.{sym, ◌∙◌}
use Rattle.plans_counterexamples.specs.Search.{stored_word}
use Rattle.plans_counterexamples.proofs.SearchLemmas.{first_none, first_some, first_end}
use Rattle.plans_counterexamples.proofs.search.stored_words.Goals as goal

pub returns-in-Some : goal.returns-in-Some
returns-in-Some c = first_some (stored_word c.args.rule c.args.producers.now c.args.terms c.args.plan.now c.args.at) c.loop-word.word
    (c.args.terms.words) _ _ c.loop-word-test.true
    (sym c.in-Some.is ∙ c.stored_word.ensures) c.loop-word.invariant

pub loop-word-preserved : goal.loop-word-preserved
loop-word-preserved c = first_none (stored_word c.args.rule c.args.producers.now c.args.terms c.args.plan.now c.args.at) c.loop-word.word
    (c.args.terms.words) _ c.loop-word-test.true
    (sym c.in-None.is ∙ c.stored_word.ensures) c.loop-word.invariant

pub returns : goal.returns
returns c = first_end (stored_word c.args.rule c.args.producers.now c.args.terms c.args.plan.now c.args.at) c.loop-word.word
    (c.args.terms.words) _ c.loop-word-test.false
    c.loop-word.invariant
