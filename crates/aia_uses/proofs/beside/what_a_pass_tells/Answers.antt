use Rattle.aia_model.specs.declared.line.Line.TheVariants as lines
use Rattle.aia_model.specs.Refusal.{refusal}
use Rattle.aia_uses.proofs.BesideFacts.{then_told}
use Rattle.aia_uses.proofs.beside.what_a_pass_tells.Goals as goal

pub returns-clause-lines : goal.returns-clause-lines
returns-clause-lines c = λ v line h k its machine vms homes flights guests.
    c.a_pass_tells_a_vm_that_it_came.ensures.lines v line h k its
    (record { machine = machine; vms = vms; homes = homes; flights = flights; guests = guests })

pub returns-clause-passes : goal.returns-clause-passes
returns-clause-passes c = λ v h k source vm vcpu identity machine vms homes flights guests ready none.
    then_told (refusal h (lines.Pass source vm vcpu identity)) (refusal k (lines.Pass source vm vcpu identity))
    (c.a_pass_tells_a_vm_that_it_came.ensures.passes v h k source vm vcpu identity
    (record { machine = machine; vms = vms; homes = homes; flights = flights; guests = guests }) ready) none

pub returns-clause-counted : goal.returns-clause-counted
returns-clause-counted c = λ v h k source vm vcpu identity machine vms homes flights guests ready count passed.
    c.a_pass_tells_a_vm_that_it_came.ensures.counted v h k source vm vcpu identity
    (record { machine = machine; vms = vms; homes = homes; flights = flights; guests = guests }) ready count passed
