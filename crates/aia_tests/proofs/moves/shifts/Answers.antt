use Rattle.aia_tests.proofs.moves.shifts.Goals as goal

pub steps-requires-clause-phase : goal.steps-requires-clause-phase
steps-requires-clause-phase c = c.shift-plan.ensures.phase _
