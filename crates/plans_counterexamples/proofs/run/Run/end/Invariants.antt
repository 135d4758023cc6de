use Rattle.std.proofs.Common.{◌≡◌}
use Rattle.plans_counterexamples.specs.Search.{trace_upto}
use Rattle.plans_counterexamples.proofs.run.Run.end.Given as goal

abbrev pub invariant-loop-at : goal.invariant-loop-at
invariant-loop-at l = l.trace ≡ trace_upto l.self l.fn.terms l.plan l.at
