use Rattle.aia_vcpu_places.proofs.AccessKept.{access_kept, sizes_kept}
use Rattle.aia_vcpu_places.proofs.MoveEnds.{move_ended, left_empty}
use Rattle.aia_vcpu_places.proofs.laws.a_step_keeps_the_file.Goals as goal

pub returns-clause-step : goal.returns-clause-step
returns-clause-step c = access_kept

pub returns-clause-last : goal.returns-clause-last
returns-clause-last c = move_ended

pub returns-clause-left : goal.returns-clause-left
returns-clause-left c = left_empty

pub returns-clause-sizes : goal.returns-clause-sizes
returns-clause-sizes c = sizes_kept
