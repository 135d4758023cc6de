use Rattle.std.proofs.Common.{◌≡◌, map, take}
use Rattle.plans_judge.specs.Table.{lead_first}
use Rattle.plans_judge.proofs.table.first_leads.Given as goal

abbrev pub invariant-loop-kind : goal.invariant-loop-kind
invariant-loop-kind l = l.leads.items ≡ map lead_first (take l.kind-index l.producers)
