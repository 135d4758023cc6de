use Rattle.std.proofs.Common.{◌≡◌}
use Rattle.plans_counterexamples.specs.Search.{last_by, run_of, trace_upto}
use Rattle.plans_counterexamples.specs.declared.trace.Begin.TheVariants as begins
use Rattle.plans_counterexamples.specs.declared.run.Extra.TheVariants as extras
use Rattle.plans_counterexamples.proofs.search.last_by.Given as goal

abbrev pub invariant-loop-at : goal.invariant-loop-at
invariant-loop-at l = (l.trace ≡ trace_upto (run_of l.case begins.Nowhere extras.Nothing) l.fn.terms l.plan l.at)
    × (l.last ≡ last_by l.fn.route l.case l.fn.terms l.plan l.at)
