use Rattle.std.proofs.Common.{subst}
use Rattle.aia_vcpu_places.specs.Stores.{AreApart}
use Rattle.aia_fabric_values.specs.World.{World}
use Rattle.aia_move_values.specs.Turns.{LeavesEmpty}
use Rattle.aia_move_values.specs.PlanState.{PlanState, moving_of}
use Rattle.aia_move.proofs.plan.Plan.step.Goals as goal

pub returns-else-step_in_place-clause-empty : goal.returns-else-step_in_place-clause-empty
returns-else-step_in_place-clause-empty g c =
    let none = c.if-step_in_place.ensures.goes in
    subst (λ (plan : PlanState). AreApart (moving_of plan).home → LeavesEmpty c.args.fabric.now (moving_of plan) c.finish.new.fabric) none.1
    (subst (λ (w : World). AreApart (moving_of c.step_in_place.new.self).home
    → LeavesEmpty w (moving_of c.step_in_place.new.self) c.finish.new.fabric) none.0 c.finish.ensures.empty)
