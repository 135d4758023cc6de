-- VMs, in the order in which they are made, and their virtual harts. Vocabulary, where no chapter
-- is named.
use Rattle.std.specs.Prelude.{ℕ, zero, suc, ◌+◌, Bool, ◌&&◌, nat_eq, nat_lt, List, [], ◌∷◌, ◌++◌, take, slice_index_or}
use Rattle.aia_vcpu.specs.declared.vm.Vm.{Vm}

-- What a list of VMs has past its last one.
abbrev pub no_vm : Vm
no_vm = record { vcpus = 0; mask = 0; notice_hart = 0 }

-- The VM of a number: they are numbered from 0 on.
abbrev pub vm_in : List Vm → ℕ → Vm
vm_in vms vm = slice_index_or vms vm no_vm

-- How many virtual harts the VMs of a list have in all.
abbrev pub vcpus_in : List Vm → ℕ
vcpus_in [] = 0
vcpus_in (vm ∷ vms) = vm.vcpus + vcpus_in vms

-- ---- virtual harts

-- A virtual hart, by its VM and its number in that VM, which is the number of its interrupt file
-- too.
pub record Vcpu : Type 0 where
  pub vm : ℕ
  pub vcpu : ℕ

abbrev pub vcpu_of : ℕ → ℕ → Vcpu
vcpu_of vm vcpu = record { vm = vm; vcpu = vcpu }

-- Whether two virtual harts are the same.
abbrev pub is_vcpu : Vcpu → Vcpu → Bool
is_vcpu a b = nat_eq a.vm b.vm && nat_eq a.vcpu b.vcpu

-- Whether there is such a virtual hart.
abbrev pub is_vcpu_in : List Vm → Vcpu → Bool
is_vcpu_in vms g = nat_lt g.vcpu (vm_in vms g.vm).vcpus

-- The number of a virtual hart over all VMs, in the order of their making: that of its slot of
-- memory, for good.
-- Profile.
abbrev pub slot_of : List Vm → Vcpu → ℕ
slot_of vms g = vcpus_in (take g.vm vms) + g.vcpu

-- The identity by which the host is told of a virtual hart's interrupts: that number, counted from
-- 1. Profile.
abbrev pub notice_identity : List Vm → Vcpu → ℕ
notice_identity vms g = slot_of vms g + 1

-- The hart at whose supervisor file the host is told of them: the notice hart of the VM. Profile.
abbrev pub notice_hart : List Vm → Vcpu → ℕ
notice_hart vms g = (vm_in vms g.vm).notice_hart

-- ---- all of them

-- So many virtual harts of a VM, from a number on; those of VMs that are numbered from a number
-- on; those of all VMs.
abbrev pub vcpus_from : ℕ → ℕ → ℕ → List Vcpu
vcpus_from vm vcpu zero = []
vcpus_from vm vcpu (suc count) = vcpu_of vm vcpu ∷ vcpus_from vm (suc vcpu) count

abbrev pub vcpus_of_vms : ℕ → List Vm → List Vcpu
vcpus_of_vms number [] = []
vcpus_of_vms number (vm ∷ vms) =
    vcpus_from number 0 vm.vcpus ++ vcpus_of_vms (suc number) vms

abbrev pub all_vcpus : List Vm → List Vcpu
all_vcpus vms = vcpus_of_vms 0 vms
