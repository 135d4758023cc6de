use Rattle.std.proofs.Common.{◌≡◌, ◌+◌, take}
use Rattle.aia_vcpu.specs.Vms.{vcpus_in}
use Rattle.aia_vcpu.proofs.vm.notice_hart_of.Given as goal

abbrev pub invariant-loop-vm : goal.invariant-loop-vm
invariant-loop-vm l = l.left + vcpus_in (take l.vm-index l.vms) ≡ l.q
