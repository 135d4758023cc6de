use Rattle.std.proofs.Common.{◌≡◌}
use Rattle.plans_counterexamples.specs.Run.{last_emptied}
use Rattle.plans_counterexamples.proofs.run.last_emptied.Given as goal

abbrev pub invariant-loop-at : goal.invariant-loop-at
invariant-loop-at l = l.last ≡ last_emptied l.plan l.bank l.word l.at
