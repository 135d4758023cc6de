use Rattle.std.proofs.Common.{◌≤◌, ◌<◌, refl, length, arith}
use Rattle.aia_model.specs.declared.line.Line.TheVariants as lines
use Rattle.aia_hyp_values.specs.Stands.{CoreTakes, route_answer}
use Rattle.aia_hyp_values.proofs.EventLemmas.{still}
use Rattle.aia_hyp_values.proofs.DeviceLemmas.{no_vm_for_it, misaligned_store, store_taken}
use Rattle.aia_hyp.proofs.hypervisor_core.Core.msi.Goals.{After-device_store}
use Rattle.aia_hyp.proofs.hypervisor_core.Core.msi.Goals as goal

taken : (c : After-device_store) → CoreTakes (record {
  world = c.self.inside.fabric;
  leases = c.self.inside.pool;
  vcpus = c.self.inside.vcpus.items;
  selects = c.self.inside.selects;
  passes =
      c.self.inside.passes;
}) (record {
  world = c.device_store.new.self;
  leases = c.self.inside.pool;
  vcpus = c.self.inside.vcpus.items;
  selects =
      c.self.inside.selects;
  passes = c.self.inside.passes;
}) (lines.Msi c.args.vm c.args.addr c.args.value) (route_answer c.device_store.result)
taken c =
    let low : c.args.vm < length c.self.inside.fabric.vms = omega (arith, c.vms.ensures.value, c.from.ensures, c.if-vm-from.false) in
    store_taken _ _ c.args.vm c.args.addr c.args.value c.device_store.result c.vms.ensures.whole low c.if-addr-ne0.false
    c.device_store.ensures.route c.device_store.ensures.reaches refl refl refl refl

pub invariant_of-self : goal.invariant_of-self
invariant_of-self c = still _ _ _ _ (taken c.before) c.self.invariant

pub returns-then-vm-from : goal.returns-then-vm-from
returns-then-vm-from c =
    let past : length c.self.inside.fabric.vms ≤ c.args.vm = omega (arith, c.vms.ensures.value, c.from.ensures, c.if-vm-from.true) in
    rw (← c.self.view_is) (no_vm_for_it _ c.args.vm c.args.addr c.args.value past)

pub returns-then-addr-ne0 : goal.returns-then-addr-ne0
returns-then-addr-ne0 c =
    let low : c.args.vm < length c.self.inside.fabric.vms = omega (arith, c.vms.ensures.value, c.from.ensures, c.if-vm-from.false) in
    rw (← c.self.view_is) (misaligned_store _ c.args.vm c.args.addr c.args.value low c.if-addr-ne0.true)

pub returns : goal.returns
returns c = rw (← c.self.view_is, c.taken_by.ensures) (taken c.before)
