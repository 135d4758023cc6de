use Rattle.std.proofs.Common.{refl}
use Rattle.aia_regs.specs.declared.access.Csr.TheVariants.{Reg, Topei}
use Rattle.aia_model.specs.declared.line.Line.TheVariants as lines
use Rattle.aia_model.specs.declared.part.Part.TheVariants as parts
use Rattle.aia_uses.proofs.requests.what_becomes_pending_was_asked_for.Goals as goal

pub returns-clause-msi : goal.returns-clause-msi
returns-clause-msi c = λ h vm addr value g i stands still was is.
    let asked = c.a_request_stays_until_it_is_cleared.ensures.unasked h (lines.Msi vm addr value) g i stands refl still was is in
    (asked.0, asked.1.0, asked.1.1)

pub returns-clause-ipi : goal.returns-clause-ipi
returns-clause-ipi c = λ h vm vcpu to value g i stands still was is.
    (c.a_request_stays_until_it_is_cleared.ensures.unasked h (lines.Ipi vm vcpu to value) g i stands refl still was is).1

pub returns-clause-write : goal.returns-clause-write
returns-clause-write c = λ h vm vcpu op g i stands still was is.
    (c.a_request_stays_until_it_is_cleared.ensures.unasked h (lines.GuestCsr vm vcpu Reg op) g i stands refl still was is).1

pub returns-clause-land : goal.returns-clause-land
returns-clause-land c = λ h vm k g i stands still was is.
    (c.a_request_stays_until_it_is_cleared.ensures.unasked h (lines.Land vm k) g i stands refl still was is).1

pub returns-clause-load : goal.returns-clause-load
returns-clause-load c = λ h vm vcpu w pending enable g i stands still was is.
    (c.a_request_stays_until_it_is_cleared.ensures.unasked h (lines.LoadPart vm vcpu (parts.Word w pending enable)) g i stands refl still was is).1

pub returns-clause-claim : goal.returns-clause-claim
returns-clause-claim c = λ h vm vcpu op g i stands still was is.
    (c.a_request_stays_until_it_is_cleared.ensures.unasked h (lines.GuestCsr vm vcpu Topei op) g i stands refl still was is).1
