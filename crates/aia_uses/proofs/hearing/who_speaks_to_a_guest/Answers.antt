use Rattle.aia_model.specs.declared.line.Line.TheVariants as lines
use Rattle.aia_model.specs.Event.Event.{Accepted, Began, Stepped, Delivered, Landed, Relayed}
use Rattle.aia_model.specs.Passes.{passed_by}
use Rattle.aia_uses.proofs.HearingFacts.{of_pass}
use Rattle.aia_uses.proofs.hearing.who_speaks_to_a_guest.Goals as goal

pub returns-clause-msi : goal.returns-clause-msi
returns-clause-msi c = λ past vm addr value g word e.
    c.only_its_vm_and_its_hypervisor_speak_to_a_guest.ensures past (Accepted (lines.Msi vm addr value)) g word e

pub returns-clause-ipi : goal.returns-clause-ipi
returns-clause-ipi c = λ past vm vcpu to value g word e.
    c.only_its_vm_and_its_hypervisor_speak_to_a_guest.ensures past (Accepted (lines.Ipi vm vcpu to value)) g word e

pub returns-clause-access : goal.returns-clause-access
returns-clause-access c = λ past vm vcpu csr op g word e.
    c.only_its_vm_and_its_hypervisor_speak_to_a_guest.ensures past (Accepted (lines.GuestCsr vm vcpu csr op)) g word e

pub returns-clause-inject : goal.returns-clause-inject
returns-clause-inject c = λ past vm vcpu bit level g word e.
    c.only_its_vm_and_its_hypervisor_speak_to_a_guest.ensures past (Accepted (lines.Inject vm vcpu bit level)) g word e

pub returns-clause-control : goal.returns-clause-control
returns-clause-control c = λ past vm vcpu value g word e.
    c.only_its_vm_and_its_hypervisor_speak_to_a_guest.ensures past (Accepted (lines.Hvictl vm vcpu value)) g word e

pub returns-clause-priorities : goal.returns-clause-priorities
returns-clause-priorities c = λ past vm vcpu value g word e.
    c.only_its_vm_and_its_hypervisor_speak_to_a_guest.ensures past (Accepted (lines.Hviprio vm vcpu value)) g word e

pub returns-clause-load : goal.returns-clause-load
returns-clause-load c = λ past vm vcpu part g word e.
    c.only_its_vm_and_its_hypervisor_speak_to_a_guest.ensures past (Accepted (lines.LoadPart vm vcpu part)) g word e

pub returns-clause-landed : goal.returns-clause-landed
returns-clause-landed c = λ past vm k g word e. c.only_its_vm_and_its_hypervisor_speak_to_a_guest.ensures past (Landed vm k) g word e

pub returns-clause-delivered : goal.returns-clause-delivered
returns-clause-delivered c = λ past msi g word e.
    of_pass past (passed_by past msi.source) g (c.only_its_vm_and_its_hypervisor_speak_to_a_guest.ensures past (Delivered msi) g word e)

pub returns-clause-relayed : goal.returns-clause-relayed
returns-clause-relayed c = λ past p g word e. c.only_its_vm_and_its_hypervisor_speak_to_a_guest.ensures past (Relayed p) g word e

pub returns-clause-began : goal.returns-clause-began
returns-clause-began c = λ past move g word e. c.only_its_vm_and_its_hypervisor_speak_to_a_guest.ensures past (Began move) g word e

pub returns-clause-stepped : goal.returns-clause-stepped
returns-clause-stepped c = λ past x g word e. c.only_its_vm_and_its_hypervisor_speak_to_a_guest.ensures past (Stepped x) g word e

pub returns-clause-wire : goal.returns-clause-wire
returns-clause-wire c = λ past source level g word e.
    c.only_its_vm_and_its_hypervisor_speak_to_a_guest.ensures past (Accepted (lines.Wire source level)) g word e
