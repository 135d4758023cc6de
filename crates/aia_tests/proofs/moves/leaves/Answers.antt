use Rattle.aia_tests.proofs.moves.leaves.Goals as goal

pub steps-requires-clause-phase : goal.steps-requires-clause-phase
steps-requires-clause-phase c = c.leave-plan.ensures.phase _
