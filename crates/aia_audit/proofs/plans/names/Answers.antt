use Rattle.std.proofs.Common.{sym, subst}
use Rattle.std.specs.List.{All}
use Rattle.aia_plan.specs.Plan.{IsInside}
use Rattle.aia_plan.proofs.CorePlans.{core_is_inside}
use Rattle.aia_audit.proofs.plans.names.Goals as goal

pub returns-clause-inside : goal.returns-clause-inside
returns-clause-inside c = subst (All (IsInside c.args.words)) (sym c.push_plan.ensures) (core_is_inside c.args.kind c.args.words)
