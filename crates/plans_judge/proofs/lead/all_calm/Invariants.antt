use Rattle.std.proofs.Common.{◌≡◌}
use Rattle.plans_rules.specs.Setting.{all_below}
use Rattle.plans_judge.specs.Table.{is_calm_at}
use Rattle.plans_judge.proofs.lead.all_calm.Given as goal

abbrev pub invariant-loop-place : goal.invariant-loop-place
invariant-loop-place l = l.holds ≡ all_below (is_calm_at l.leads) l.place
