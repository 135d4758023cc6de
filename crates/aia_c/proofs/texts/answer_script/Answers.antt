use Rattle.aia_io.proofs.PieceLemmas.{all_of_rest}
use Rattle.aia_c.proofs.TextLemmas.{one_more}
use Rattle.aia_c.proofs.texts.answer_script.Goals as goal

pub loop-taken-preserved : goal.loop-taken-preserved
loop-taken-preserved c =
    let far = c.loop-taken in
    let text = c.in-Ok.ensures in
    one_more c.args.engine.now far.engine c.answer_first.new.engine c.args.script.now c.args.answers.now far.answers _ _ c.answer_first.new.room
    far.taken far.written c.in-Ok.line c.in-Ok.answer
    far.invariant c.loop-taken-test.true (all_of_rest c.args.script.now far.taken) (all_of_rest far.answers far.written) text.within.1
    text.within.2 c.answer_first.auto.room text.lines text.answers text.rest
