use Rattle.std.proofs.Common.{refl}
use Rattle.aia_word.specs.Packed.{packed}
use Rattle.aia_regs.specs.declared.access.Csr.TheVariants.{Reg, Topei}
use Rattle.aia_regs.specs.declared.access.Op.TheVariants as ops
use Rattle.aia_vcpu.specs.Vms.{vcpu_of}
use Rattle.aia_model.specs.declared.line.Line.TheVariants as lines
use Rattle.aia_uses.specs.Worked.{enabled, asked, selected}
use Rattle.aia_uses.proofs.Facts.{msi_taken, msi_alone, was_silent, msi_asks, is_asked, claim_clears, still_asked, write_clears}
use Rattle.aia_uses.proofs.requests.one_is_asked_for_and_cleared.Goals as goal

pub returns-clause-asked : goal.returns-clause-asked
unfolding packed
returns-clause-asked c = c.a_request_stays_until_it_is_cleared.ensures.asked enabled (lines.Msi 0 0x28000000 1) (vcpu_of 0 0) 1 refl refl msi_taken
    (refl, refl)

pub returns-clause-unasked : goal.returns-clause-unasked
returns-clause-unasked c = (c.a_request_stays_until_it_is_cleared.ensures.unasked enabled (lines.Msi 0 0x28000000 1) (vcpu_of 0 0) 1 refl refl
    msi_alone was_silent msi_asks).1.1

pub returns-clause-claimed : goal.returns-clause-claimed
returns-clause-claimed c = (c.a_request_stays_until_it_is_cleared.ensures.stays asked (lines.GuestCsr 0 0 Topei (ops.Write 0)) (vcpu_of 0 0) 1 refl
    refl is_asked claim_clears).1.2

pub returns-clause-written : goal.returns-clause-written
returns-clause-written c = (c.a_request_stays_until_it_is_cleared.ensures.stays selected (lines.GuestCsr 0 0 Reg (ops.Clear 2)) (vcpu_of 0 0) 1 refl
    refl still_asked write_clears).1.1
