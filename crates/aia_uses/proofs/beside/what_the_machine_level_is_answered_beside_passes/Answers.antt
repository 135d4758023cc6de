use Rattle.aia_uses.proofs.beside.what_the_machine_level_is_answered_beside_passes.Goals as goal

pub returns-clause-left_out : goal.returns-clause-left_out
returns-clause-left_out c = λ script. c.the_machine_level_is_answered_by_its_lines_and_by_passes.ensures.left_out script

pub returns-clause-alone : goal.returns-clause-alone
returns-clause-alone c = λ script part texts. c.the_machine_level_is_answered_by_its_lines_and_by_passes.ensures.alone script part texts

pub returns-clause-two_scripts : goal.returns-clause-two_scripts
returns-clause-two_scripts c = λ script other same. c.the_machine_level_is_answered_by_its_lines_and_by_passes.ensures.two_scripts script other same
