use Rattle.aia_move_values.proofs.WaySteps.{goes_all, aims_all}
use Rattle.aia_move_values.proofs.WayEnds.{ends_all}
use Rattle.aia_move.proofs.ways.its_own_steps_keep_what_a_plan_knows.Goals as goal

pub returns-clause-goes : goal.returns-clause-goes
returns-clause-goes c = goes_all

pub returns-clause-aims : goal.returns-clause-aims
returns-clause-aims c = aims_all

pub returns-clause-ends : goal.returns-clause-ends
returns-clause-ends c = ends_all
