use Rattle.aia_move_values.proofs.PhaseLemmas.{phase_aims}
use Rattle.aia_move.proofs.laws.a_plan_aims_in_its_phase_alone.Goals as goal

pub returns : goal.returns
returns c = phase_aims
