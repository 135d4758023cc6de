use Rattle.std.proofs.Common.{◌≡◌}
use Rattle.plans_rules.specs.Setting.{any_below}
use Rattle.plans_judge.specs.Table.{is_reaching_at}
use Rattle.plans_judge.proofs.lead.any_reaching.Given as goal

abbrev pub invariant-loop-place : goal.invariant-loop-place
invariant-loop-place l = l.holds ≡ any_below (is_reaching_at l.leads) l.place
