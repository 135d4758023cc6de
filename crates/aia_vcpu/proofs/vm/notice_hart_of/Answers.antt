use Rattle.aia_vcpu.proofs.OwnerLemmas.{owner}
use Rattle.aia_vcpu.proofs.vm.notice_hart_of.Goals as goal

pub returns-then-left-vm : goal.returns-then-left-vm
returns-then-left-vm c = λ g there is. owner c.args.vms.now c.loop-vm.vm-index c.loop-vm.left c.args.q g c.loop-vm.invariant
    c.if-left-vm.true there is
