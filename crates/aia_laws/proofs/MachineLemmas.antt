-- What holds of all histories whose every event may happen: the machine comes first, and its files
-- have more identities than there are virtual harts.
use Rattle.std.proofs.Common.{◌≡◌, ℕ, ◌+◌, ◌/◌, ◌<◌, ◌≤◌, true, false, [], ◌∷◌, inl, inr, refl, sym, ap, ◌∙◌, arith}
use Rattle.std.specs.Int.{is_in_range}
use Rattle.std.proofs.lemmas.Bool.{cases_Bool, and_parts, le-ltb, false≢true}
use Rattle.std.proofs.lemmas.Bool.Decides.{nat_tests}
use Rattle.aia_regs.specs.declared.limits.TheConstants.{VCPUS}
use Rattle.aia_file.specs.InterruptFile.{is_greatest_identity}
use Rattle.aia_file.proofs.SizeLemmas.{enough_identities}
use Rattle.aia_vcpu.specs.Vms.{Vcpu, vcpus_in}
use Rattle.aia_vcpu.proofs.VmLemmas.{vcpus_more}
use Rattle.aia_model.specs.declared.line.Line.TheVariants.{Machine}
use Rattle.aia_model.specs.declared.line.Line.TheVariants as lines
use Rattle.aia_model.specs.Event.{History, has_machine, greatest_identity_of, file_words}
use Rattle.aia_model.specs.Event.Event.{Accepted, Began, Stepped, Delivered, Landed, Relayed}
use Rattle.aia_model.specs.Vms.{vms_of, has_vcpu}
use Rattle.aia_model.specs.FileAfter.{file_by}
use Rattle.aia_model.specs.GuestFile.{guest_file}
use Rattle.aia_model.specs.Refusal.{is_machine_size}
use Rattle.aia_laws.proofs.FileLemmas.{enabled_fits}
use Rattle.aia_model.proofs.RefusalLemmas.{machine_allowed, vm_allowed}
use Rattle.aia_model.proofs.PlaceLemmas.{machine_first}
use Rattle.aia_model.specs.Histories.{IsHistory}

none_there : (g : Vcpu) → has_vcpu [] g ≡ false
none_there g = le-ltb g.vcpu 0 (omega arith)

-- where a virtual hart is, a machine stands
pub machine_of_vcpu : (h : History) (g : Vcpu) → IsHistory h → has_vcpu h g ≡ true → has_machine h ≡ true
machine_of_vcpu h g good there = elim (cases_Bool (has_machine h)) [
  | inl stands ↦ stands
  | inr none ↦ absurd (false≢true (sym (none_there g) ∙ ap (λ x. has_vcpu x g) (sym (machine_first h good none)) ∙ there))
]

greatest_of_size : (harts guests n sources : ℕ) → is_machine_size harts guests n sources ≡ true → is_greatest_identity n ≡ true
greatest_of_size harts guests n sources e = (and_parts _ _ (and_parts _ _ e).0).1

pub greatest_of_machine : (h : History) → IsHistory h → has_machine h ≡ true → is_greatest_identity (greatest_identity_of h) ≡ true
greatest_of_machine [] good stands = absurd (cc)
greatest_of_machine (Accepted (Machine harts guests n sources) ∷ h) good stands =
    greatest_of_size harts guests n sources (machine_allowed h harts guests n sources good.0).1
greatest_of_machine (Accepted line ∷ h) good stands = greatest_of_machine h good.1 stands
greatest_of_machine (Began move ∷ h) good stands = greatest_of_machine h good.1 stands
greatest_of_machine (Stepped g ∷ h) good stands = greatest_of_machine h good.1 stands
greatest_of_machine (Landed vm k ∷ h) good stands = greatest_of_machine h good.1 stands
greatest_of_machine (Delivered msi ∷ h) good stands = greatest_of_machine h good.1 stands
greatest_of_machine (Relayed p ∷ h) good stands = greatest_of_machine h good.1 stands

few_vcpus : (h : History) → IsHistory h → vcpus_in (vms_of h) ≤ VCPUS
few_vcpus [] good = omega arith
few_vcpus (Accepted (lines.Vm vcpus mask hart) ∷ h) good =
    rw (vcpus_more (vms_of h) (record { vcpus = vcpus; mask = mask; notice_hart = hart })) (vm_allowed h vcpus mask hart good.0)
few_vcpus (Accepted line ∷ h) good = few_vcpus h good.1
few_vcpus (Began move ∷ h) good = few_vcpus h good.1
few_vcpus (Stepped g ∷ h) good = few_vcpus h good.1
few_vcpus (Landed vm k ∷ h) good = few_vcpus h good.1
few_vcpus (Delivered msi ∷ h) good = few_vcpus h good.1
few_vcpus (Relayed p ∷ h) good = few_vcpus h good.1

-- so there are more identities than virtual harts
pub identities_for_all : (h : History) (g : Vcpu) → IsHistory h → has_vcpu h g ≡ true → vcpus_in (vms_of h) ≤ greatest_identity_of h
identities_for_all h g good there =
    let enough = enough_identities (greatest_identity_of h) (greatest_of_machine h good (machine_of_vcpu h g good there)) in
    let few = few_vcpus h good in
    omega (arith, enough, few)

-- what is enabled lies in a word of the file
word_below : (n i : ℕ) → is_greatest_identity n ≡ true → i ≤ n → i / 64 < (n + 1) / 64
word_below n i e low = grind (arith, nat_tests)

none_enabled : (g : Vcpu) (i : ℕ) → (guest_file [] g).enabled i ≡ false
unfolding file_by
none_enabled g i = refl

pub enabled_in_words : (h : History) (g : Vcpu) (i : ℕ) → IsHistory h → (guest_file h g).enabled i ≡ true → i / 64 < file_words h
enabled_in_words h g i good e = elim (cases_Bool (has_machine h)) [
  | inl stands ↦ word_below (greatest_identity_of h) i (greatest_of_machine h good stands) (at_most (greatest_identity_of h) (enabled_fits h g i e))
  | inr none ↦ absurd (false≢true (sym (none_enabled g i) ∙ ap (λ x. (guest_file x g).enabled i) (sym (machine_first h good none)) ∙ e))
]
  where
    at_most : (n : ℕ) → is_in_range 1 n i ≡ true → i ≤ n
    at_most n here = grind (arith, nat_tests)
