use Rattle.aia_uses.proofs.alone.what_the_machine_level_is_answered.Goals as goal

pub returns-clause-left_out : goal.returns-clause-left_out
returns-clause-left_out c = λ script none. c.the_machine_level_is_answered_as_if_there_were_no_vm.ensures.left_out script none

pub returns-clause-alone : goal.returns-clause-alone
returns-clause-alone c = λ script part none texts. c.the_machine_level_is_answered_as_if_there_were_no_vm.ensures.alone script part none texts

pub returns-clause-two_scripts : goal.returns-clause-two_scripts
returns-clause-two_scripts c = λ script other none others same.
    c.the_machine_level_is_answered_as_if_there_were_no_vm.ensures.two_scripts script other none others same
