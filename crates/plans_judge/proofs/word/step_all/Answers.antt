use Rattle.std.proofs.Common.{arith}
use Rattle.plans_judge.specs.Table.{word_after}
use Rattle.plans_judge.proofs.AfterLemmas.{one_made, all_made}
use Rattle.plans_judge.proofs.word.step_all.Goals as goal

pub loop-word-preserved : goal.loop-word-preserved
loop-word-preserved c = one_made (word_after c.args.world c.args.step) _ _ _ _ _ (omega (arith, c.loop-word-test.true, c.loop-word.auto.words))
    c.after.ensures c.loop-word.invariant

pub returns : goal.returns
returns c = all_made (word_after c.args.world c.args.step) _ _ _ (omega (arith, c.loop-word-test.false, c.loop-word.auto.words)) c.loop-word.invariant
