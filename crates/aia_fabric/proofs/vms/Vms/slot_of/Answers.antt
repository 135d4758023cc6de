use Rattle.std.proofs.Common.{◌≡◌, take, arith}
use Rattle.aia_vcpu.specs.Vms.{vcpus_in, vcpu_of}
use Rattle.aia_vcpu.proofs.VmLemmas.{slot_below}
use Rattle.aia_fabric.proofs.vms.Vms.slot_of.Goals as goal

pub overflow_add-result : goal.overflow_add-result
overflow_add-result c =
    let first : c.vcpus_in.result ≡ vcpus_in (take c.args.vm c.args.self.now) = rw (← c.self.view_is, ← c.deref.ensures.0) c.vcpus_in.ensures in
    let below = slot_below c.args.self.now (vcpu_of c.args.vm c.args.vcpu) c.requires.there in
    omega (arith, first, below, c.requires.few)

pub returns-clause-below : goal.returns-clause-below
returns-clause-below c =
    let first : c.vcpus_in.result ≡ vcpus_in (take c.args.vm c.args.self.now) = rw (← c.self.view_is, ← c.deref.ensures.0) c.vcpus_in.ensures in
    let below = slot_below c.args.self.now (vcpu_of c.args.vm c.args.vcpu) c.requires.there in
    omega (arith, first, below)
