-- After a history whose events may happen, once a machine stands, each virtual hart has a state.
use Rattle.std.proofs.Common.{◌≡◌, Bool, true, false, cond, [], ◌∷◌, ap, ◌∙◌}
use Rattle.std.specs.Int.{is_in_range}
use Rattle.aia_file.specs.InterruptFile.{is_greatest_identity}
use Rattle.aia_regs.specs.declared.access.Csr.TheVariants.{Sip, Sie}
use Rattle.aia_major.specs.VsMajor.{VsMajorState}
use Rattle.aia_vcpu.specs.Vms.{Vcpu, vcpu_of, is_vcpu}
use Rattle.aia_model.specs.declared.line.Line.TheVariants.{GuestCsr, Inject, Hvictl, Hviprio, LoadPart}
use Rattle.aia_model.specs.Event.{History, has_machine, greatest_identity_of}
use Rattle.aia_model.specs.Event.Event.{Accepted, Began, Stepped, Delivered, Landed, Relayed}
use Rattle.aia_model.specs.GuestFile.{guest_deed}
use Rattle.aia_model.specs.MajorOf.{majors_of}
use Rattle.aia_model.specs.StateOf.{state_of}
use Rattle.aia_model.specs.Histories.{IsHistory}
use Rattle.aia_model.proofs.RefusalLemmas.{inject_allowed, hvictl_allowed, load_allowed}
use Rattle.aia_laws.specs.Images.{IsState}
use Rattle.aia_model.proofs.GreatestLemmas.{guest_greatest}
use Rattle.aia_laws.proofs.FileLemmas.{enabled_fits}
use Rattle.aia_laws.proofs.MachineLemmas.{greatest_of_machine}
use Rattle.aia_laws.proofs.StateLemmas.{always_fit, select_low, AreFit, new_fit, injection_fit, sip_fit, sie_fit, hviprio1_fit, hvictl_fit, part_fit}

one_of_two : (b : Bool) (x y : VsMajorState) → AreFit x → AreFit y → AreFit (cond b x y)
one_of_two true x y p q = p
one_of_two false x y p q = q

majors_fit : (h : History) (g : Vcpu) → IsHistory h → AreFit (majors_of h g)
unfolding majors_of
majors_fit [] g good = new_fit
majors_fit (Accepted (Inject vm vcpu bit level) ∷ h) g good =
    one_of_two (is_vcpu g (vcpu_of vm vcpu)) _ _ (injection_fit bit level (majors_of h g) (inject_allowed h vm vcpu bit level good.0)
    (majors_fit h g good.1)) (majors_fit h g good.1)
majors_fit (Accepted (Hviprio vm vcpu value) ∷ h) g good =
    one_of_two (is_vcpu g (vcpu_of vm vcpu)) _ _ (hviprio1_fit value (majors_of h g) (majors_fit h g good.1)) (majors_fit h g good.1)
majors_fit (Accepted (Hvictl vm vcpu value) ∷ h) g good =
    one_of_two (is_vcpu g (vcpu_of vm vcpu)) _ _ (hvictl_fit value (majors_of h g) (hvictl_allowed h vm vcpu value good.0)
    (majors_fit h g good.1)) (majors_fit h g good.1)
majors_fit (Accepted (GuestCsr vm vcpu Sip op) ∷ h) g good =
    one_of_two (is_vcpu g (vcpu_of vm vcpu)) _ _ (sip_fit op (majors_of h g) (majors_fit h g good.1)) (majors_fit h g good.1)
majors_fit (Accepted (GuestCsr vm vcpu Sie op) ∷ h) g good =
    one_of_two (is_vcpu g (vcpu_of vm vcpu)) _ _ (sie_fit op (majors_of h g) (majors_fit h g good.1)) (majors_fit h g good.1)
majors_fit (Accepted (LoadPart vm vcpu part) ∷ h) g good =
    one_of_two (is_vcpu g (vcpu_of vm vcpu)) _ _ (part_fit (greatest_identity_of h) part (majors_of h g)
    (load_allowed h vm vcpu part good.0).fits (majors_fit h g good.1)) (majors_fit h g good.1)
majors_fit (Accepted line ∷ h) g good = majors_fit h g good.1
majors_fit (Began move ∷ h) g good = majors_fit h g good.1
majors_fit (Stepped x ∷ h) g good = majors_fit h g good.1
majors_fit (Delivered msi ∷ h) g good = majors_fit h g good.1
majors_fit (Relayed p ∷ h) g good = majors_fit h g good.1
majors_fit (Landed vm k ∷ h) g good = majors_fit h g good.1

pub is_state : (h : History) (g : Vcpu) → IsHistory h → has_machine h ≡ true → IsState (state_of h g)
is_state h g good stands =
    let file = always_fit (guest_deed g) h in
    let majors = majors_fit h g good in
    record {
      greatest = ap is_greatest_identity (guest_greatest h g) ∙ greatest_of_machine h good stands;
      select = select_low (guest_deed g) h;
      pending = file.pending;
      enabled = λ i e. ap (λ n. is_in_range 1 n i) (guest_greatest h g) ∙ enabled_fits h g i e;
      threshold = file.threshold;
      delivery = file.delivery;
      injected_majors = majors.injected;
      enabled_majors = majors.enabled;
      hviprio1 = majors.hviprio1;
      hvictl = majors.hvictl;
    }
