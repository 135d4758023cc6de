use Rattle.aia_isolation.proofs.GroundLemmas.{left_out, alone, same_for}
use Rattle.aia_isolation.proofs.scripts.the_machine_level_is_answered_by_its_lines_and_by_passes.Goals as goal

pub returns-clause-left_out : goal.returns-clause-left_out
returns-clause-left_out c = left_out

pub returns-clause-two_scripts : goal.returns-clause-two_scripts
returns-clause-two_scripts c = same_for

pub returns-clause-alone : goal.returns-clause-alone
returns-clause-alone c = alone
