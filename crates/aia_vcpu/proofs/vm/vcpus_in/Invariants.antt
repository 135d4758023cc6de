use Rattle.std.proofs.Common.{◌≡◌, take}
use Rattle.aia_vcpu.specs.Vms.{vcpus_in}
use Rattle.aia_vcpu.proofs.vm.vcpus_in.Given as goal

abbrev pub invariant-loop-vm : goal.invariant-loop-vm
invariant-loop-vm l = l.count ≡ vcpus_in (take l.vm-index l.vms)
