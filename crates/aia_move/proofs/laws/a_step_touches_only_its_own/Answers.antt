use Rattle.aia_move_values.proofs.TouchLemmas.{step_touches, view_stays}
use Rattle.aia_move.proofs.laws.a_step_touches_only_its_own.Goals as goal

pub returns-clause-touches : goal.returns-clause-touches
returns-clause-touches c = step_touches

pub returns-clause-others : goal.returns-clause-others
returns-clause-others c = view_stays
