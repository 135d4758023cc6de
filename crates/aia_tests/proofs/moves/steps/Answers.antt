use Rattle.aia_move_values.specs.declared.turn.Next.TheVariants.{Again}
use Rattle.aia_move_values.specs.PlanState.{moving_of}
use Rattle.aia_move_values.specs.Targets.{next_aim}
use Rattle.aia_tests.proofs.PlanFacts.{none_still}
use Rattle.aia_tests.proofs.moves.steps.Goals as goal

pub returns-in-Again-clause-none_passed : goal.returns-in-Again-clause-none_passed
returns-in-Again-clause-none_passed c =
    let m = moving_of c.args.plan in
    none_still (next_aim m) c.args.fabric.now _ m (Again c.in-Again.plan) c.in-Again.ensures.goes c.requires.none_passed
