use Rattle.aia_tests.proofs.steps_in_place.leaves_in_place.Goals as goal

pub is_made_in_place-requires-clause-phase : goal.is_made_in_place-requires-clause-phase
is_made_in_place-requires-clause-phase g c = c.leave-plan.ensures.phase _
