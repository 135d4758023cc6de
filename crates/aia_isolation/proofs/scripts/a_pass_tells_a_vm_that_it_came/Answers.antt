use Rattle.aia_isolation.proofs.RefusalLemmas.{same_answer}
use Rattle.aia_isolation.proofs.PassWordLemmas.{pass_told, pass_counted}
use Rattle.aia_isolation.proofs.scripts.a_pass_tells_a_vm_that_it_came.Goals as goal

pub returns-clause-lines : goal.returns-clause-lines
returns-clause-lines c = λ v line h k its a. same_answer line v h k its a

pub returns-clause-passes : goal.returns-clause-passes
returns-clause-passes c = pass_told

pub returns-clause-counted : goal.returns-clause-counted
returns-clause-counted c = pass_counted
