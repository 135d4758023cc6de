use Rattle.std.proofs.Common.{sym, ◌∙◌}
use Rattle.plans_counterexamples.specs.UntoldSearch.{untold_run_of, untold_word}
use Rattle.plans_counterexamples.proofs.SearchLemmas.{first_none, first_some, first_end}
use Rattle.plans_counterexamples.proofs.untold_search.untold_run.Goals as goal

pub returns-in-Some-clause-exact : goal.returns-in-Some-clause-exact
unfolding untold_run_of
returns-in-Some-clause-exact c = first_some (untold_word c.args.producers.now c.args.terms c.args.plan.now) c.loop-word.word (c.args.terms.words)
    _ _ c.loop-word-test.true (sym c.in-Some.is ∙ c.untold_word.ensures.exact) c.loop-word.invariant

pub loop-word-preserved : goal.loop-word-preserved
loop-word-preserved c = first_none (untold_word c.args.producers.now c.args.terms c.args.plan.now) c.loop-word.word (c.args.terms.words) _
    c.loop-word-test.true (sym c.in-None.is ∙ c.untold_word.ensures.exact) c.loop-word.invariant

pub returns-clause-exact : goal.returns-clause-exact
unfolding untold_run_of
returns-clause-exact c = first_end (untold_word c.args.producers.now c.args.terms c.args.plan.now) c.loop-word.word (c.args.terms.words) _
    c.loop-word-test.false c.loop-word.invariant
