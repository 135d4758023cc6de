use Rattle.std.proofs.Common.{◌≡◌}
use Rattle.plans_counterexamples.specs.Untold.{watch_upto}
use Rattle.plans_counterexamples.proofs.untold.UntoldRun.end.Given as goal

abbrev pub invariant-loop-at : goal.invariant-loop-at
invariant-loop-at l = l.watch ≡ watch_upto l.fn.terms l.plan l.self l.at
