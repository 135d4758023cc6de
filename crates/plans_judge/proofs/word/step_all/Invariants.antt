use Rattle.plans_judge.specs.Table.{word_after}
use Rattle.plans_judge.proofs.AfterLemmas.{SoFar}
use Rattle.plans_judge.proofs.word.step_all.Given as goal

abbrev pub invariant-loop-word : goal.invariant-loop-word
invariant-loop-word l = SoFar (word_after l.world l.step) l.fn.words l.words l.word
