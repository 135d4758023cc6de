use Rattle.std.proofs.Common.{◌≡◌, drop}
use Rattle.aia_audit.specs.Behind.{behind}
use Rattle.aia_audit.proofs.judge.audit.Given as goal

abbrev pub invariant-loop-at : goal.invariant-loop-at
invariant-loop-at l = l.behind ≡ behind l.fn.kind (drop l.at l.fn.plan)
