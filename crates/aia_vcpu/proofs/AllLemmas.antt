-- What holds of some virtual hart, or of none, of all that some VMs have.
use Rattle.std.proofs.Common.{◌≡◌, ℕ, zero, suc, ◌+◌, ◌<◌, ◌≤◌, Bool, true, false, ◌||◌, List, [], ◌∷◌, inl, inr, sym, ap, subst, ◌∙◌, arith}
use Rattle.std.specs.List.{list_any}
use Rattle.std.proofs.lemmas.List.Folds.{list_any-append}
use Rattle.std.proofs.lemmas.Bool.{cases_Bool, cases_eq, lt-ltb, false≢true, or_right, or_cases}
use Rattle.std.proofs.lemmas.Bool.Decides.{nat_tests}
use Rattle.aia_vcpu.specs.declared.vm.Vm.{Vm}
use Rattle.aia_vcpu.specs.Vms.{vm_in, Vcpu, vcpu_of, is_vcpu_in, vcpus_from, vcpus_of_vms, all_vcpus}

in_vm : (q : Vcpu → Bool) (vm from count vcpu : ℕ) → from ≤ vcpu → vcpu < from + count → q (vcpu_of vm vcpu) ≡ true
    → list_any q (vcpus_from vm from count) ≡ true
in_vm q vm from zero vcpu low high t = absurd (omega (arith, low, high))
in_vm q vm from (suc count) vcpu low high t = elim (cases_eq from vcpu) [
  | inl e ↦ ap (λ b. b || list_any q (vcpus_from vm (suc from) count)) (ap (λ n. q (vcpu_of vm n)) e ∙ t)
  | inr ne ↦ or_right (q (vcpu_of vm from)) _ (in_vm q vm (suc from) count vcpu (omega (arith, low, ne)) (omega (arith, high)) t)
]

in_vms : (q : Vcpu → Bool) (first : ℕ) (vms : List Vm) (vm vcpu : ℕ) → vcpu < (vm_in vms vm).vcpus → q (vcpu_of (first + vm) vcpu) ≡ true
    → list_any q (vcpus_of_vms first vms) ≡ true
in_vms q first [] vm vcpu low t = absurd (omega (arith, low))
in_vms q first (one ∷ later) zero vcpu low t =
    list_any-append q (vcpus_from first 0 one.vcpus) (vcpus_of_vms (suc first) later)
    ∙ ap (λ b. b || list_any q (vcpus_of_vms (suc first) later))
    (in_vm q first 0 one.vcpus vcpu (omega arith) (omega (arith, low)) (subst (λ v. q (vcpu_of v vcpu) ≡ true) (omega arith) t))
in_vms q first (one ∷ later) (suc vm) vcpu low t =
    list_any-append q (vcpus_from first 0 one.vcpus) (vcpus_of_vms (suc first) later)
    ∙ or_right (list_any q (vcpus_from first 0 one.vcpus)) _
    (in_vms q (suc first) later vm vcpu low (subst (λ v. q (vcpu_of v vcpu) ≡ true) (omega arith) t))

-- what holds of one that is there holds of some
pub any_vcpu : (vms : List Vm) (q : Vcpu → Bool) (g : Vcpu) → is_vcpu_in vms g ≡ true → q g ≡ true → list_any q (all_vcpus vms) ≡ true
any_vcpu vms q g there t =
    let low : g.vcpu < (vm_in vms g.vm).vcpus = grind (arith, nat_tests) in
    in_vms q 0 vms g.vm g.vcpu low (subst (λ v. q (vcpu_of v g.vcpu) ≡ true) (omega arith) t)

of_vm : (q : Vcpu → Bool) (vm from count : ℕ) → list_any q (vcpus_from vm from count) ≡ true → (vcpu : ℕ) × (vcpu < from + count)
    × (q (vcpu_of vm vcpu) ≡ true)
of_vm q vm from zero t = absurd (false≢true t)
of_vm q vm from (suc count) t = elim (or_cases (q (vcpu_of vm from)) (list_any q (vcpus_from vm (suc from) count)) t) [
  | inl here ↦ (from, omega arith, here)
  | inr later ↦ let r = of_vm q vm (suc from) count later in let low = r.1 in (r.0, omega (arith, low), r.2)
]

of_vms : (q : Vcpu → Bool) (first : ℕ) (vms : List Vm) → list_any q (vcpus_of_vms first vms) ≡ true → (vm : ℕ) × (vcpu : ℕ)
    × (vcpu < (vm_in vms vm).vcpus) × (q (vcpu_of (first + vm) vcpu) ≡ true)
of_vms q first [] t = absurd (false≢true t)
of_vms q first (one ∷ later) t = elim (or_cases (list_any q (vcpus_from first 0 one.vcpus)) (list_any q (vcpus_of_vms (suc first) later))
    (sym (list_any-append q (vcpus_from first 0 one.vcpus) (vcpus_of_vms (suc first) later)) ∙ t)) [
      | inl here ↦ let r = of_vm q first 0 one.vcpus here in let low = r.1 in
          (0, r.0, omega (arith, low), subst (λ v. q (vcpu_of v r.0) ≡ true) (omega arith) r.2)
      | inr rest ↦ let r = of_vms q (suc first) later rest in (suc r.0, r.1, r.2, subst (λ v. q (vcpu_of v r.1) ≡ true) (omega arith) r.3)
    ]

-- and what holds of some holds of one that is there
pub some_vcpu : (vms : List Vm) (q : Vcpu → Bool) → list_any q (all_vcpus vms) ≡ true → (g : Vcpu) × (is_vcpu_in vms g ≡ true) × (q g ≡ true)
some_vcpu vms q t =
    let r = of_vms q 0 vms t in
    (vcpu_of r.0 r.1, lt-ltb _ _ r.2, subst (λ v. q (vcpu_of v r.1) ≡ true) (omega arith) r.3)

-- what holds of none that is there holds of none
pub no_vcpu : (vms : List Vm) (q : Vcpu → Bool) → ((g : Vcpu) → is_vcpu_in vms g ≡ true → q g ≡ false) → list_any q (all_vcpus vms) ≡ false
no_vcpu vms q none = elim (cases_Bool (list_any q (all_vcpus vms))) [
  | inl t ↦ let r = some_vcpu vms q t in absurd (false≢true (sym (none r.0 r.1) ∙ r.2))
  | inr f ↦ f
]

pub of_none : (vms : List Vm) (q : Vcpu → Bool) (g : Vcpu) → list_any q (all_vcpus vms) ≡ false → is_vcpu_in vms g ≡ true → q g ≡ false
of_none vms q g none there = elim (cases_Bool (q g)) [
  | inl t ↦ absurd (false≢true (sym none ∙ any_vcpu vms q g there t))
  | inr f ↦ f
]
