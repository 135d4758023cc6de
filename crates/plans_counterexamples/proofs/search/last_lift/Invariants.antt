use Rattle.std.proofs.Common.{◌≡◌, ◌≤◌, length}
use Rattle.plans_counterexamples.specs.Search.{last_lift}
use Rattle.plans_counterexamples.proofs.search.last_lift.Given as goal

abbrev pub invariant-loop-at : goal.invariant-loop-at
invariant-loop-at l = (l.last ≡ last_lift l.plan l.word l.at) × (l.last ≤ length l.plan)
