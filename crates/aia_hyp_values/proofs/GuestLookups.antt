-- What the core looks up for an access of a virtual hart: what the access reaches, and the record.
use Rattle.std.proofs.Common.{◌≡◌, ◌<◌, length, sym, ap, subst, ◌∙◌, arith}
use Rattle.aia_regs.specs.declared.access.Csr.{Csr}
use Rattle.aia_regs.specs.declared.access.Op.{Op}
use Rattle.aia_csr.specs.declared.csr_access.CsrAccess.{CsrAccess}
use Rattle.aia_vcpu.specs.Vms.{Vcpu, vcpu_of, slot_of}
use Rattle.aia_major.specs.VsMajor.{vti_of}
use Rattle.aia_major.specs.Kept.{majors_shown}
use Rattle.aia_fabric_values.specs.declared.found.Found.{Found}
use Rattle.aia_fabric_values.specs.Found.{IsFound}
use Rattle.aia_hyp_values.specs.Core.{CoreState, record_of}
use Rattle.aia_hyp_values.specs.Stands.{StandsForSome}
use Rattle.aia_hyp_values.proofs.AccessLemmas.{IsReachedBy, reached_by}
use Rattle.aia_hyp_values.proofs.GuestAccesses.{access_by}
use Rattle.aia_hyp_values.proofs.MoveCalls.{who_low}

pub reached : (x y : CoreState) (g : Vcpu) (access was : CsrAccess) (csr : Csr) (op : Op) → x ≡ y → was ≡ access
    → was ≡ access_by (record_of y g) csr op → access ≡ access_by (record_of x g) csr op
reached x y g access was csr op e is table = sym is ∙ table ∙ ap (λ (z : CoreState). access_by (record_of z g) csr op) (sym e)

pub names : (x : CoreState) (g : Vcpu) (access : CsrAccess) (csr : Csr) (op : Op) → access ≡ access_by (record_of x g) csr op
    → IsReachedBy csr op (record_of x g).select access
names x g access csr op e = reached_by csr op (record_of x g).select (vti_of (majors_shown (record_of x g).majors).hvictl) access e

-- the slot of one that is found, in a core x that is seen as y
pub slot_is : (x y : CoreState) (found : Found) → x ≡ y → IsFound y.world found → found.slot ≡ slot_of x.world.vms (vcpu_of found.vm found.vcpu)
slot_is x y found e is = subst (λ (z : CoreState). found.slot ≡ slot_of z.world.vms (vcpu_of found.vm found.vcpu)) (sym e) is.slot

pub slot_low : (x y : CoreState) (found : Found) → x ≡ y → StandsForSome x → IsFound y.world found
    → slot_of x.world.vms (vcpu_of found.vm found.vcpu) < length x.vcpus
slot_low x y found e some is =
    let slot = slot_is x y found e is in
    let low = who_low x found some (subst (λ (z : CoreState). IsFound z.world found) (sym e) is) in
    omega (arith, slot, low)
