use Rattle.std.proofs.Common.{refl}
use Rattle.aia_regs.specs.declared.access.Csr.TheVariants.{Reg, Topei}
use Rattle.aia_model.specs.declared.line.Line.TheVariants as lines
use Rattle.aia_uses.proofs.PassedFacts.{only_told, asked_or_told}
use Rattle.aia_uses.proofs.passed.what_comes_is_asked_for_or_forwarded.Goals as goal

pub returns-clause-msi : goal.returns-clause-msi
returns-clause-msi c = λ h vm addr value g i stands was is.
    let comes = c.none_comes_unasked_where_sources_are_passed.ensures.unasked h (lines.Msi vm addr value) g i stands refl was is in
    (comes.0, asked_or_told h (lines.Msi vm addr value) g i comes.1)

pub returns-clause-write : goal.returns-clause-write
returns-clause-write c = λ h vm vcpu op g i stands was is.
    let comes = c.none_comes_unasked_where_sources_are_passed.ensures.unasked h (lines.GuestCsr vm vcpu Reg op) g i stands refl was is in
    (comes.0, asked_or_told h (lines.GuestCsr vm vcpu Reg op) g i comes.1)

pub returns-clause-claim : goal.returns-clause-claim
returns-clause-claim c = λ h vm vcpu op g i stands was is.
    let comes = c.none_comes_unasked_where_sources_are_passed.ensures.unasked h (lines.GuestCsr vm vcpu Topei op) g i stands refl was is in
    only_told h (lines.GuestCsr vm vcpu Topei op) g i comes.1

pub returns-clause-wire : goal.returns-clause-wire
returns-clause-wire c = λ h source level g i stands was is.
    let comes = c.none_comes_unasked_where_sources_are_passed.ensures.unasked h (lines.Wire source level) g i stands refl was is in
    (comes.0, only_told h (lines.Wire source level) g i comes.1)

pub returns-clause-store : goal.returns-clause-store
returns-clause-store c = λ h addr value g i stands was is.
    let comes = c.none_comes_unasked_where_sources_are_passed.ensures.unasked h (lines.Store addr value) g i stands refl was is in
    (comes.0, only_told h (lines.Store addr value) g i comes.1)
