use Rattle.aia_move_values.proofs.StepLemmas.{fits_still}
use Rattle.aia_move_values.proofs.MachineLemmas.{phase_still, machine_touched}
use Rattle.aia_move.proofs.laws.a_plan_knows_its_machine_alone.Goals as goal

pub returns-clause-fits : goal.returns-clause-fits
returns-clause-fits c = fits_still

pub returns-clause-phase : goal.returns-clause-phase
returns-clause-phase c = phase_still

pub returns-clause-steps : goal.returns-clause-steps
returns-clause-steps c = machine_touched
