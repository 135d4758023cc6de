use Rattle.aia_uses.proofs.alone.what_a_vm_is_answered.Goals as goal

pub returns-clause-left_out : goal.returns-clause-left_out
returns-clause-left_out c = λ v script none. c.a_vm_is_answered_as_if_it_were_alone.ensures.left_out v script none

pub returns-clause-alone : goal.returns-clause-alone
returns-clause-alone c = λ v script part none texts. c.a_vm_is_answered_as_if_it_were_alone.ensures.alone v script part none texts

pub returns-clause-two_scripts : goal.returns-clause-two_scripts
returns-clause-two_scripts c = λ v script other none others same.
    c.a_vm_is_answered_as_if_it_were_alone.ensures.two_scripts v script other none others same
