use Rattle.std.proofs.Common.{sym, ◌∙◌, arith}
use Rattle.aia_fabric_values.proofs.WholeLemmas.{vcpu_entry}
use Rattle.aia_fabric.proofs.fabric.Fabric.find.Goals as goal

pub overflow_cast-vm : goal.overflow_cast-vm
overflow_cast-vm c =
    let few = (vcpu_entry c.args.self.now c.args.vm c.args.vcpu c.has_vcpu.ensures.whole
    (sym c.has_vcpu.ensures.value ∙ c.if-not-has_vcpu.false)).1 in
    omega (arith, few)

pub overflow_cast-vcpu : goal.overflow_cast-vcpu
overflow_cast-vcpu c =
    let few = (vcpu_entry c.args.self.now c.args.vm c.args.vcpu c.has_vcpu.ensures.whole
    (sym c.has_vcpu.ensures.value ∙ c.if-not-has_vcpu.false)).2 in
    omega (arith, few)
