use Rattle.std.proofs.Common.{refl}
use Rattle.aia_regs.specs.declared.access.Csr.TheVariants.{Reg}
use Rattle.aia_vcpu.specs.Vms.{vcpu_of}
use Rattle.aia_model.specs.declared.line.Line.TheVariants as lines
use Rattle.aia_model.specs.declared.part.Part.TheVariants as parts
use Rattle.aia_model.specs.GuestFile.{sent_to}
use Rattle.aia_uses.proofs.requests.what_is_asked_for_is_pending.Goals as goal

pub returns-clause-msi : goal.returns-clause-msi
returns-clause-msi c = λ h vm addr value g i stands ok own asks.
    c.a_request_stays_until_it_is_cleared.ensures.asked h (lines.Msi vm addr value) g i stands refl ok (own, asks)

pub returns-clause-ipi : goal.returns-clause-ipi
returns-clause-ipi c = λ h vm vcpu to value i stands ok asks.
    c.a_request_stays_until_it_is_cleared.ensures.asked h (lines.Ipi vm vcpu to value) (vcpu_of vm to) i stands refl ok (refl, asks)

pub returns-clause-write : goal.returns-clause-write
returns-clause-write c = λ h g op i stands ok asks.
    c.a_request_stays_until_it_is_cleared.ensures.asked h (lines.GuestCsr g.vm g.vcpu Reg op) g i stands refl ok (refl, asks)

pub returns-clause-land : goal.returns-clause-land
returns-clause-land c = λ h vm k s i stands ok is asks.
    c.a_request_stays_until_it_is_cleared.ensures.asked h (lines.Land vm k) (sent_to vm s) i stands refl ok (s, is, refl, asks)

pub returns-clause-load : goal.returns-clause-load
returns-clause-load c = λ h g w pending enable i stands ok asks.
    c.a_request_stays_until_it_is_cleared.ensures.asked h (lines.LoadPart g.vm g.vcpu (parts.Word w pending enable)) g i stands refl ok (refl, asks)
