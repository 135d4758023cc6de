-- Virtual harts and their slots.
use Rattle.std.proofs.Common.{◌≡◌, ℕ, zero, suc, ◌+◌, ◌-◌, ◌<◌, ◌≤◌, ◌⊎◌, inl, inr, true, nat_eq, nat_lt, List, [], ◌∷◌, ◌++◌, length, take, length-append, refl, sym, subst, ap, ◌∙◌, arith}
use Rattle.std.proofs.lemmas.Bool.{cases_lt, cases_eq, lt-ltb, eqb-true, and_parts}
use Rattle.std.proofs.lemmas.Bool.Decides.{nat_tests}
use Rattle.aia_vcpu.specs.declared.vm.Vm.{Vm}
use Rattle.aia_vcpu.specs.Vms.{vm_in, vcpus_in, Vcpu, vcpu_of, is_vcpu, is_vcpu_in, slot_of}

-- two names by the same numbers are one
pub same_vcpu : (a b : Vcpu) → is_vcpu a b ≡ true → a ≡ b
same_vcpu a b e =
    let p = and_parts (nat_eq a.vm b.vm) (nat_eq a.vcpu b.vcpu) e in
    ap (λ vm. vcpu_of vm a.vcpu) (eqb-true a.vm b.vm p.0) ∙ ap (λ vcpu. vcpu_of b.vm vcpu) (eqb-true a.vcpu b.vcpu p.1)

pub numbered : (vms : List Vm) (vm vcpu : ℕ) → is_vcpu_in vms (vcpu_of vm vcpu) ≡ true → vcpu < (vm_in vms vm).vcpus
numbered vms vm vcpu there = grind (arith, nat_tests)

below_by : (vms : List Vm) (vm vcpu : ℕ) → vcpu < (vm_in vms vm).vcpus → slot_of vms (vcpu_of vm vcpu) < vcpus_in vms
below_by [] vm vcpu low = absurd (omega (arith, low))
below_by (first ∷ later) zero vcpu low = omega (arith, low)
below_by (first ∷ later) (suc vm) vcpu low = let rest = below_by later vm vcpu low in omega (arith, rest)

pub slot_below : (vms : List Vm) (g : Vcpu) → is_vcpu_in vms g ≡ true → slot_of vms g < vcpus_in vms
slot_below vms g there = below_by vms g.vm g.vcpu (numbered vms g.vm g.vcpu there)

one_by : (vms : List Vm) (a m b n : ℕ) → m < (vm_in vms a).vcpus → n < (vm_in vms b).vcpus → slot_of vms (vcpu_of a m) ≡ slot_of vms (vcpu_of b n)
    → (a ≡ b) × (m ≡ n)
one_by [] a m b n low small e = absurd (omega (arith, low))
one_by (first ∷ later) zero m zero n low small e = (omega arith, omega (arith, e))
one_by (first ∷ later) zero m (suc b) n low small e = absurd (omega (arith, low, e))
one_by (first ∷ later) (suc a) m zero n low small e = absurd (omega (arith, small, e))
one_by (first ∷ later) (suc a) m (suc b) n low small e = let rest = one_by later a m b n low small (omega (arith, e)) in (ap suc rest.0, rest.1)

-- two virtual harts with one slot are one
pub same_slot : (vms : List Vm) (a b : Vcpu) → is_vcpu_in vms a ≡ true → is_vcpu_in vms b ≡ true → slot_of vms a ≡ slot_of vms b → a ≡ b
same_slot vms a b here there e =
    let same = one_by vms a.vm a.vcpu b.vm b.vcpu (numbered vms a.vm a.vcpu here) (numbered vms b.vm b.vcpu there) e in
    ap (λ vm. vcpu_of vm a.vcpu) same.0 ∙ ap (λ vcpu. vcpu_of b.vm vcpu) same.1

-- every slot of them is that of a virtual hart
taken_by : (vms : List Vm) (q : ℕ) → q < vcpus_in vms → (vm : ℕ) × (vcpu : ℕ) × (vcpu < (vm_in vms vm).vcpus) × (slot_of vms (vcpu_of vm vcpu) ≡ q)
taken_by [] q low = absurd (omega (arith, low))
taken_by (first ∷ later) q low = elim (cases_lt q first.vcpus) [
  | inl here ↦ (0, q, here, omega arith)
  | inr past ↦
      let rest = taken_by later (q - first.vcpus) (omega (arith, low, past)) in
      let same = rest.3 in
      (suc rest.0, rest.1, rest.2, omega (arith, same, past))
]

pub slot_taken : (vms : List Vm) (q : ℕ) → q < vcpus_in vms → (g : Vcpu) × (is_vcpu_in vms g ≡ true) × (slot_of vms g ≡ q)
slot_taken vms q low =
    let taken = taken_by vms q low in
    let there : is_vcpu_in vms (vcpu_of taken.0 taken.1) ≡ true = lt-ltb _ _ taken.2 in
    (vcpu_of taken.0 taken.1, there, taken.3)

-- ---- one VM more

-- the VMs that stood stay, with their slots
pub vm_stays : (vms : List Vm) (vm : Vm) (v : ℕ) → v < length vms → vm_in (vms ++ vm ∷ []) v ≡ vm_in vms v
vm_stays [] vm v low = absurd (omega (arith, low))
vm_stays (first ∷ later) vm zero low = refl
vm_stays (first ∷ later) vm (suc v) low = vm_stays later vm v (omega (arith, low))

pub take_stays : (vms : List Vm) (vm : Vm) (v : ℕ) → v ≤ length vms → take v (vms ++ vm ∷ []) ≡ take v vms
take_stays vms vm zero low = refl
take_stays [] vm (suc v) low = absurd (omega (arith, low))
take_stays (first ∷ later) vm (suc v) low = ap (λ vs. first ∷ vs) (take_stays later vm v (omega (arith, low)))

pub slot_stays : (vms : List Vm) (vm : Vm) (g : Vcpu) → g.vm < length vms → slot_of (vms ++ vm ∷ []) g ≡ slot_of vms g
slot_stays vms vm g low = ap (λ vs. vcpus_in vs + g.vcpu) (take_stays vms vm g.vm (omega (arith, low)))

-- the next one follows them
pub vm_new : (vms : List Vm) (vm : Vm) → vm_in (vms ++ vm ∷ []) (length vms) ≡ vm
vm_new [] vm = refl
vm_new (first ∷ later) vm = vm_new later vm

pub slot_new : (vms : List Vm) (vm : Vm) (vcpu : ℕ) → slot_of (vms ++ vm ∷ []) (vcpu_of (length vms) vcpu) ≡ vcpus_in vms + vcpu
slot_new [] vm vcpu = refl
slot_new (first ∷ later) vm vcpu = let rest = slot_new later vm vcpu in omega (arith, rest)

pub vcpus_more : (vms : List Vm) (vm : Vm) → vcpus_in (vms ++ vm ∷ []) ≡ vcpus_in vms + vm.vcpus
vcpus_more [] vm = omega arith
vcpus_more (first ∷ later) vm = let rest = vcpus_more later vm in omega (arith, rest)

pub vm_past : (vms : List Vm) (v : ℕ) → length vms ≤ v → (vm_in vms v).vcpus ≡ 0
vm_past [] v past = refl
vm_past (first ∷ later) zero past = absurd (omega (arith, past))
vm_past (first ∷ later) (suc v) past = vm_past later v (omega (arith, past))

-- those that were, and the new VM's
pub old_or_new : (vms : List Vm) (vm : Vm) (g : Vcpu) → is_vcpu_in (vms ++ vm ∷ []) g ≡ true → ((g.vm < length vms) × (is_vcpu_in vms g ≡ true))
    ⊎ ((g.vm ≡ length vms) × (g.vcpu < vm.vcpus))
old_or_new vms vm g there = elim (cases_lt g.vm (length vms)) [
  | inl low ↦ inl (low, ap (λ (v : Vm). nat_lt g.vcpu v.vcpus) (sym (vm_stays vms vm g.vm low)) ∙ there)
  | inr past ↦ elim (cases_eq g.vm (length vms)) [
    | inl e ↦ inr (
      e,
      subst (λ (v : Vm). g.vcpu < v.vcpus) (ap (vm_in (vms ++ vm ∷ [])) e ∙ vm_new vms vm)
          (numbered (vms ++ vm ∷ []) g.vm g.vcpu there),
    )
    | inr ne ↦
        let low = numbered (vms ++ vm ∷ []) g.vm g.vcpu there in
        let none = vm_past (vms ++ vm ∷ []) g.vm (omega (arith, past, ne, length-append vms (vm ∷ []))) in absurd (omega (arith, low, none))
  ]
]
