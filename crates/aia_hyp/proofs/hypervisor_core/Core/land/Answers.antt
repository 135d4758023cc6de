use Rattle.std.proofs.Common.{◌≤◌, length, refl, arith}
use Rattle.aia_fabric_values.specs.World.{flight_of}
use Rattle.aia_model.specs.declared.line.Line.TheVariants.{Land}
use Rattle.aia_model.specs.declared.answer.Answer.TheVariants.{Okay}
use Rattle.aia_hyp_values.specs.Stands.{CoreTakes}
use Rattle.aia_hyp_values.proofs.EventLemmas.{still}
use Rattle.aia_hyp_values.proofs.LandingLemmas.{land_taken, none_to_land, no_vm_for_landing}
use Rattle.aia_hyp.proofs.hypervisor_core.Core.land.Goals.{After-land}
use Rattle.aia_hyp.proofs.hypervisor_core.Core.land.Goals as goal

pub returns-then-vm-from : goal.returns-then-vm-from
returns-then-vm-from c =
    let past : length c.self.inside.fabric.vms ≤ c.args.vm = omega (arith, c.vms.ensures.value, c.from.ensures, c.if-vm-from.true) in
    rw (← c.self.view_is) (no_vm_for_landing _ c.args.vm c.args.k c.vms.ensures.whole past)

pub returns-then-k-flying : goal.returns-then-k-flying
returns-then-k-flying c =
    let past : length (flight_of c.self.inside.fabric c.args.vm) ≤ c.args.k = omega (arith, c.flying.ensures.value, c.if-k-flying.true) in
    rw (← c.self.view_is) (none_to_land _ c.args.vm c.args.k past)

taken : (c : After-land) → CoreTakes (record {
  world = c.self.inside.fabric;
  leases = c.self.inside.pool;
  vcpus = c.self.inside.vcpus.items;
  selects = c.self.inside.selects;
  passes = c.self.inside.passes;
})
    (record {
      world = c.land.new.self;
      leases = c.self.inside.pool;
      vcpus = c.self.inside.vcpus.items;
      selects = c.self.inside.selects;
      passes =
          c.self.inside.passes;
    }) (Land c.args.vm c.args.k) Okay
taken c = land_taken _ _ c.args.vm c.args.k (record {
  whole = c.vms.ensures.whole;
  low = omega (arith, c.vms.ensures.value, c.from.ensures, c.if-vm-from.false);
  lands = c.land.ensures;
  leases = refl;
  vcpus = refl;
  selects = refl;
  passes = refl;
}) (omega (arith, c.flying.ensures.value, c.if-k-flying.false))

pub invariant_of-self : goal.invariant_of-self
invariant_of-self c = still _ _ _ _ (taken c) c.self.invariant

pub returns : goal.returns
returns c = rw (← c.self.view_is) (taken c)
