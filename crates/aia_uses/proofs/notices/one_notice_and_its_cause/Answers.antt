use Rattle.std.proofs.Common.{◌≡◌, ℕ, Some, true, subst}
use Rattle.aia_vcpu.specs.Vms.{vcpu_of}
use Rattle.aia_model.specs.declared.line.Line.TheVariants as lines
use Rattle.aia_model.specs.Event.Event.{Accepted}
use Rattle.aia_model.specs.GuestFile.{guest_file}
use Rattle.aia_uses.specs.Worked.{parked}
use Rattle.aia_uses.proofs.Facts.{sends_one}
use Rattle.aia_uses.proofs.notices.one_notice_and_its_cause.Goals as goal

asked_for : (i : ℕ) → Some 1 ≡ Some i → (guest_file parked (vcpu_of 0 0)).enabled i ≡ true → (guest_file parked (vcpu_of 0 0)).enabled 1 ≡ true
asked_for i e is = let same : i ≡ 1 = cc in subst (λ x. (guest_file parked (vcpu_of 0 0)).enabled x ≡ true) same is

pub returns : goal.returns
returns c =
    let cause = c.a_notice_has_a_cause.ensures parked (Accepted (lines.Msi 0 0x28000000 1)) (vcpu_of 0 0) sends_one in
    asked_for cause.identity cause.asks.1 cause.enabled
