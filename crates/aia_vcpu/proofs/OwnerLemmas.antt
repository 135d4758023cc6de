-- The first VMs of a row, how many virtual harts they have, and the VM that has a slot.
use Rattle.std.proofs.Common.{◌≡◌, ℕ, zero, suc, ◌+◌, ◌<◌, ◌≤◌, true, List, [], ◌∷◌, length, take, ap, ◌∙◌, arith}
use Rattle.std.proofs.lemmas.Bool.{lt-ltb}
use Rattle.std.proofs.Math.Seq.{take-suc}
use Rattle.std.proofs.lemmas.List.{take_all}
use Rattle.aia_vcpu.specs.declared.vm.Vm.{Vm}
use Rattle.aia_vcpu.specs.Vms.{no_vm, vm_in, vcpus_in, Vcpu, vcpu_of, is_vcpu_in, slot_of, notice_hart}
use Rattle.aia_vcpu.proofs.VmLemmas.{same_slot, vcpus_more}

pub vcpus_next : (vms : List Vm) (at : ℕ) → at < length vms → vcpus_in (take (at + 1) vms) ≡ vcpus_in (take at vms) + (vm_in vms at).vcpus
vcpus_next vms at low =
    let one : at + 1 ≡ suc at = omega arith in
    ap (λ n. vcpus_in (take n vms)) one ∙ ap vcpus_in (take-suc vms at no_vm low) ∙ vcpus_more (take at vms) (vm_in vms at)

pub vcpus_first : (vms : List Vm) (at : ℕ) → vcpus_in (take at vms) ≤ vcpus_in vms
vcpus_first [] zero = omega arith
vcpus_first [] (suc at) = omega arith
vcpus_first (first ∷ later) zero = omega arith
vcpus_first (first ∷ later) (suc at) = let rest = vcpus_first later at in omega (arith, rest)

pub vcpus_all : (vms : List Vm) (at : ℕ) → length vms ≤ at → vcpus_in (take at vms) ≡ vcpus_in vms
vcpus_all vms at past = ap vcpus_in (take_all at vms past)

-- a slot is that of the virtual harts of one VM
pub owner : (vms : List Vm) (at left q : ℕ) (g : Vcpu) → left + vcpus_in (take at vms) ≡ q → left < (vm_in vms at).vcpus → is_vcpu_in vms g ≡ true
    → slot_of vms g ≡ q
    → (vm_in vms at).notice_hart ≡ notice_hart vms g
owner vms at left q g split low there is =
    let here : is_vcpu_in vms (vcpu_of at left) ≡ true = lt-ltb _ _ low in
    let same = same_slot vms (vcpu_of at left) g here there (omega (arith, split, is)) in
    ap (λ (x : Vcpu). notice_hart vms x) same
