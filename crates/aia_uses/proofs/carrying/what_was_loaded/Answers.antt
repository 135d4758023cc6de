use Rattle.std.proofs.Common.{ap}
use Rattle.aia_vcpu.specs.Vms.{vcpu_of}
use Rattle.aia_uses.specs.Worked.{made}
use Rattle.aia_uses.proofs.CarryingFacts.{made_happens, made_stands, none_heard}
use Rattle.aia_uses.proofs.carrying.what_was_loaded.Goals as goal

pub returns-clause-later : goal.returns-clause-later
returns-clause-later c = λ h since g. c.a_virtual_hart_is_what_was_loaded_into_it.ensures.later h since g

pub returns-clause-unheard : goal.returns-clause-unheard
returns-clause-unheard c = λ h g happens stands heard. c.a_virtual_hart_is_what_was_loaded_into_it.ensures.unheard h g happens stands heard

pub returns-clause-fresh : goal.returns-clause-fresh
returns-clause-fresh c = λ n h g e.
    let is = c.a_virtual_hart_is_what_was_loaded_into_it.ensures.fresh n h g e in
    (ap (λ state. state.file.n) is, ap (λ state. state.file.threshold) is, ap (λ state. state.file.delivery) is)

pub returns-clause-loaded : goal.returns-clause-loaded
returns-clause-loaded c = λ image order h g state all e.
    c.a_virtual_hart_is_what_was_loaded_into_it.ensures.loaded image h g state (record { order = order; all = all; are = e })

pub returns-clause-one : goal.returns-clause-one
returns-clause-one c = c.a_virtual_hart_is_what_was_loaded_into_it.ensures.unheard made (vcpu_of 0 0) made_happens made_stands none_heard
