use Rattle.std.proofs.Common.{◌+◌, arith}
use Rattle.aia_vcpu.proofs.OwnerLemmas.{vcpus_next, vcpus_first}
use Rattle.aia_vcpu.proofs.vm.vcpus_in.Goals as goal

pub overflow_add-count : goal.overflow_add-count
overflow_add-count c =
    let next = vcpus_next c.args.vms.now c.loop-vm.vm-index c.loop-vm-test.true in
    let few = vcpus_first c.args.vms.now (c.loop-vm.vm-index + 1) in
    omega (arith, next, few, c.requires)
