use Rattle.aia_uses.proofs.beside.what_a_vm_is_answered_beside_passes.Goals as goal

pub returns-clause-left_out : goal.returns-clause-left_out
returns-clause-left_out c = λ v script. c.a_vm_is_answered_by_its_lines_and_by_what_is_sent.ensures.left_out v script

pub returns-clause-alone : goal.returns-clause-alone
returns-clause-alone c = λ v script part texts. c.a_vm_is_answered_by_its_lines_and_by_what_is_sent.ensures.alone v script part texts

pub returns-clause-two_scripts : goal.returns-clause-two_scripts
returns-clause-two_scripts c = λ v script other same. c.a_vm_is_answered_by_its_lines_and_by_what_is_sent.ensures.two_scripts v script other same
