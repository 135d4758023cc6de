use Rattle.aia_tests.proofs.moves.arrives.Goals as goal

pub goes_on-requires-clause-phase : goal.goes_on-requires-clause-phase
goes_on-requires-clause-phase c = c.arrive-plan.ensures.phase _
