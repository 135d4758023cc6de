use Rattle.aia_move_values.proofs.MoveKept.{goes_kept, ends_kept, ends_empty, aims_kept}
use Rattle.aia_move.proofs.laws.a_step_keeps_the_file_of_its_virtual_hart.Goals as goal

pub returns-clause-goes : goal.returns-clause-goes
returns-clause-goes c = goes_kept

pub returns-clause-ends : goal.returns-clause-ends
returns-clause-ends c = ends_kept

pub returns-clause-left : goal.returns-clause-left
returns-clause-left c = ends_empty

pub returns-clause-aims : goal.returns-clause-aims
returns-clause-aims c = aims_kept
