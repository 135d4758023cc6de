use Rattle.std.proofs.Common.{true, refl, ap, ◌∙◌}
use Rattle.aia_vcpu.specs.Vms.{vcpu_of}
use Rattle.aia_model.specs.declared.line.Line.TheVariants as lines
use Rattle.aia_uses.specs.Worked.{asked}
use Rattle.aia_uses.proofs.Facts.{is_asked, wire_alone}
use Rattle.aia_uses.proofs.moves.what_does_not_speak_to_a_guest.Goals as goal

pub returns-clause-msi : goal.returns-clause-msi
returns-clause-msi c = λ h vm addr value g stands other still.
    c.only_what_speaks_to_a_guest_changes_its_file.ensures.silent h (lines.Msi vm addr value) g stands other still

pub returns-clause-ipi : goal.returns-clause-ipi
returns-clause-ipi c = λ h vm vcpu to value g stands other still.
    (c.only_what_speaks_to_a_guest_changes_its_file.ensures.silent h (lines.Ipi vm vcpu to value) g stands other still).0

pub returns-clause-access : goal.returns-clause-access
returns-clause-access c = λ h vm vcpu csr op g stands other still.
    (c.only_what_speaks_to_a_guest_changes_its_file.ensures.silent h (lines.GuestCsr vm vcpu csr op) g stands other still).0

pub returns-clause-load : goal.returns-clause-load
returns-clause-load c = λ h vm vcpu part g stands other still.
    (c.only_what_speaks_to_a_guest_changes_its_file.ensures.silent h (lines.LoadPart vm vcpu part) g stands other still).0

pub returns-clause-wire : goal.returns-clause-wire
returns-clause-wire c = λ h source level g stands still.
    (c.only_what_speaks_to_a_guest_changes_its_file.ensures.silent h (lines.Wire source level) g stands refl still).0

pub returns-clause-other_vms : goal.returns-clause-other_vms
returns-clause-other_vms c = λ h line g stands other. c.only_what_speaks_to_a_guest_changes_its_file.ensures.other_vms h line g stands other

pub returns-clause-wired : goal.returns-clause-wired
returns-clause-wired c = ap (λ file. file.pending 1)
    (c.only_what_speaks_to_a_guest_changes_its_file.ensures.silent asked (lines.Wire 1 true) (vcpu_of 0 0) refl refl wire_alone).0 ∙ is_asked

pub returns-clause-others : goal.returns-clause-others
returns-clause-others c = ap (λ file. file.pending 1)
    (c.only_what_speaks_to_a_guest_changes_its_file.ensures.other_vms asked (lines.Msi 1 0x28000000 2) (vcpu_of 0 0) refl refl).0 ∙ is_asked
