use Rattle.std.proofs.Common.{sym, ◌∙◌}
use Rattle.plans_counterexamples.specs.Search.{quiet_word}
use Rattle.plans_counterexamples.proofs.SearchLemmas.{first_none, first_some, first_end}
use Rattle.plans_counterexamples.proofs.search.quiet_words.Goals as goal

pub returns-in-Some : goal.returns-in-Some
returns-in-Some c = first_some (quiet_word c.args.rule c.args.producers.now c.args.terms c.args.plan.now) c.loop-word.word
    (c.args.terms.words) _ _ c.loop-word-test.true
    (sym c.in-Some.is ∙ c.quiet_word.ensures) c.loop-word.invariant

pub loop-word-preserved : goal.loop-word-preserved
loop-word-preserved c = first_none (quiet_word c.args.rule c.args.producers.now c.args.terms c.args.plan.now) c.loop-word.word
    (c.args.terms.words) _ c.loop-word-test.true
    (sym c.in-None.is ∙ c.quiet_word.ensures) c.loop-word.invariant

pub returns : goal.returns
returns c = first_end (quiet_word c.args.rule c.args.producers.now c.args.terms c.args.plan.now) c.loop-word.word
    (c.args.terms.words) _ c.loop-word-test.false
    c.loop-word.invariant
