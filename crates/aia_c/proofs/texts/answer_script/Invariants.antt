use Rattle.std.specs.Prelude.{◌-◌, length}
use Rattle.aia_c.proofs.TextLemmas.{SoFar}
use Rattle.aia_c.proofs.texts.answer_script.Given as goal

abbrev pub invariant-loop-taken : goal.invariant-loop-taken
invariant-loop-taken l = SoFar l.fn.engine l.engine l.fn.script l.fn.answers l.answers l.taken l.written

abbrev pub decreases-loop-taken : goal.decreases-loop-taken
decreases-loop-taken l = length l.fn.script - l.taken
