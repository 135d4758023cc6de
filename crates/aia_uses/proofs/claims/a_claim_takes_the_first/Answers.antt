use Rattle.std.proofs.Common.{ℕ, refl, ap, arith}
use Rattle.aia_regs.specs.declared.access.Op.TheVariants.{Write}
use Rattle.aia_vcpu.specs.Vms.{vcpu_of}
use Rattle.aia_laws.specs.Claims.{MayBeClaimed, IsLeastToClaim}
use Rattle.aia_model.specs.GuestFile.{guest_file}
use Rattle.aia_uses.specs.Worked.{enabled, asked}
use Rattle.aia_uses.proofs.Facts.{claim_allowed, empty_claim_allowed, one_in_file, none_asked, is_asked, is_enabled, all_pass}
use Rattle.aia_uses.proofs.claims.a_claim_takes_the_first.Goals as goal

first : IsLeastToClaim (guest_file asked (vcpu_of 0 0)) 1
first = record { claimable = (omega arith, one_in_file, is_asked, is_enabled, all_pass); least = λ j may. may.0 }

none : (i : ℕ) → MayBeClaimed (guest_file enabled (vcpu_of 0 0)) i → ⊥
none i may = none_asked i may.2

pub returns-clause-answered : goal.returns-clause-answered
returns-clause-answered c = (c.a_claim_takes_the_least_identity.ensures.found asked (vcpu_of 0 0) (Write 0) 1 claim_allowed refl first).0

pub returns-clause-cleared : goal.returns-clause-cleared
returns-clause-cleared c = ap (λ file. file.pending 1)
    (c.a_claim_takes_the_least_identity.ensures.found asked (vcpu_of 0 0) (Write 0) 1 claim_allowed refl first).1

pub returns-clause-nothing : goal.returns-clause-nothing
returns-clause-nothing c = (c.a_claim_takes_the_least_identity.ensures.none enabled (vcpu_of 0 0) (Write 0) empty_claim_allowed none).0
