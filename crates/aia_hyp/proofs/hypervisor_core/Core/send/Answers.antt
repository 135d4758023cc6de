use Rattle.std.proofs.Common.{◌≤◌, ◌<◌, length, refl, arith}
use Rattle.aia_fabric_values.specs.World.{flight_of}
use Rattle.aia_model.specs.declared.line.Line.TheVariants.{Send}
use Rattle.aia_hyp_values.specs.Stands.{CoreTakes, route_answer}
use Rattle.aia_hyp_values.proofs.EventLemmas.{still}
use Rattle.aia_hyp_values.proofs.LandingLemmas.{send_taken, no_vm_for_sending, no_room_for_sending, misaligned_sending}
use Rattle.aia_hyp.proofs.hypervisor_core.Core.send.Goals.{After-send}
use Rattle.aia_hyp.proofs.hypervisor_core.Core.send.Goals as goal
use Rattle.aia_regs.specs.declared.limits.TheConstants.{STORES_IN_FLIGHT}

pub returns-then-vm-from : goal.returns-then-vm-from
returns-then-vm-from c =
    let past : length c.self.inside.fabric.vms ≤ c.args.vm = omega (arith, c.vms.ensures.value, c.from.ensures, c.if-vm-from.true) in
    rw (← c.self.view_is) (no_vm_for_sending _ c.args.vm c.args.addr c.args.value past)

pub returns-then-flying-ge-STORES_IN_FLIGHT : goal.returns-then-flying-ge-STORES_IN_FLIGHT
returns-then-flying-ge-STORES_IN_FLIGHT c =
    let low : c.args.vm < length c.self.inside.fabric.vms = omega (arith, c.vms.ensures.value, c.from.ensures, c.if-vm-from.false) in
    let past : STORES_IN_FLIGHT ≤ length (flight_of c.self.inside.fabric c.args.vm) =
    omega (arith, c.flying.ensures.value, c.if-flying-ge-STORES_IN_FLIGHT.true) in
    rw (← c.self.view_is) (no_room_for_sending _ c.args.vm c.args.addr c.args.value low past)

pub returns-then-addr-ne0 : goal.returns-then-addr-ne0
returns-then-addr-ne0 c =
    let low : c.args.vm < length c.self.inside.fabric.vms = omega (arith, c.vms.ensures.value, c.from.ensures, c.if-vm-from.false) in
    let room : length (flight_of c.self.inside.fabric c.args.vm) < STORES_IN_FLIGHT =
    omega (arith, c.flying.ensures.value, c.if-flying-ge-STORES_IN_FLIGHT.false) in
    rw (← c.self.view_is) (misaligned_sending _ c.args.vm c.args.addr c.args.value low room c.if-addr-ne0.true)

taken : (c : After-send) → CoreTakes (record {
  world = c.self.inside.fabric;
  leases = c.self.inside.pool;
  vcpus = c.self.inside.vcpus.items;
  selects = c.self.inside.selects;
  passes = c.self.inside.passes;
})
    (record {
      world = c.send.new.self;
      leases = c.self.inside.pool;
      vcpus = c.self.inside.vcpus.items;
      selects = c.self.inside.selects;
      passes =
          c.self.inside.passes;
    }) (Send c.args.vm c.args.addr c.args.value) (route_answer c.send.result)
taken c =
    let low : c.args.vm < length c.self.inside.fabric.vms = omega (arith, c.vms.ensures.value, c.from.ensures, c.if-vm-from.false) in
    let room : length (flight_of c.self.inside.fabric c.args.vm) < STORES_IN_FLIGHT =
    omega (arith, c.flying.ensures.value, c.if-flying-ge-STORES_IN_FLIGHT.false) in
    send_taken _ _ c.args.vm c.args.addr c.args.value c.send.result c.vms.ensures.whole low room c.if-addr-ne0.false c.send.ensures.route
    c.send.ensures.sends refl refl refl refl

pub invariant_of-self : goal.invariant_of-self
invariant_of-self c = still _ _ _ _ (taken c.before) c.self.invariant

pub returns : goal.returns
returns c = rw (← c.self.view_is, c.taken_by.ensures) (taken c.before)
