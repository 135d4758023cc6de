use Rattle.std.proofs.Common.{refl}
use Rattle.aia_regs.specs.declared.access.Csr.TheVariants.{Reg, Topei, Select}
use Rattle.aia_model.specs.declared.line.Line.TheVariants as lines
use Rattle.aia_uses.proofs.requests.what_is_cleared_was_claimed_or_written.Goals as goal

pub returns-clause-claim : goal.returns-clause-claim
returns-clause-claim c = λ h vm vcpu op g i stands was is.
    let cleared = c.a_request_stays_until_it_is_cleared.ensures.stays h (lines.GuestCsr vm vcpu Topei op) g i stands refl was is in
    (cleared.0, cleared.1.0, cleared.1.1, cleared.1.2)

pub returns-clause-write : goal.returns-clause-write
returns-clause-write c = λ h vm vcpu op g i stands was is.
    (c.a_request_stays_until_it_is_cleared.ensures.stays h (lines.GuestCsr vm vcpu Reg op) g i stands refl was is).1

pub returns-clause-select : goal.returns-clause-select
returns-clause-select c = λ h vm vcpu op g i stands was is.
    (c.a_request_stays_until_it_is_cleared.ensures.stays h (lines.GuestCsr vm vcpu Select op) g i stands refl was is).1

pub returns-clause-store : goal.returns-clause-store
returns-clause-store c = λ h vm addr value g i stands was is.
    (c.a_request_stays_until_it_is_cleared.ensures.stays h (lines.Msi vm addr value) g i stands refl was is).1
