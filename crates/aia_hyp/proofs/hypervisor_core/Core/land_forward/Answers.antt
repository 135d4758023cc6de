use Rattle.std.proofs.Common.{refl, sym, subst}
use Rattle.aia_model.specs.Event.Event.{Delivered}
use Rattle.aia_hyp_values.specs.Core.{CoreState}
use Rattle.aia_hyp_values.specs.Stands.{CoreGoes, MayGo}
use Rattle.aia_hyp_values.proofs.ForwardLemmas.{forwarding, goes_there, forward_goes, goes_on}
use Rattle.aia_hyp.proofs.hypervisor_core.Core.land_forward.Goals.{After-host_store}
use Rattle.aia_hyp.proofs.hypervisor_core.Core.land_forward.Goals as goal

goes : (c : After-host_store) → CoreGoes (record {
  world = c.self.inside.fabric;
  leases = c.self.inside.pool;
  vcpus = c.self.inside.vcpus.items;
  selects = c.self.inside.selects;
  passes =
      c.self.inside.passes;
}) (record {
  world = c.host_store.new.self;
  leases = c.self.inside.pool;
  vcpus = c.self.inside.vcpus.items;
  selects =
      c.self.inside.selects;
  passes = c.self.inside.passes;
}) (Delivered c.args.msi)
goes c =
    forward_goes _ _ c.args.number c.args.msi c.args.spot
    (forwarding _ c.args.self.now c.args.number c.args.msi c.args.spot c.self.view_is c.recall.ensures.whole c.requires.at c.requires.pass)
    (record { stores = c.host_store.ensures; leases = refl; vcpus = refl; selects = refl; passes = refl })

pub host_store-requires : goal.host_store-requires
host_store-requires c =
    goes_there _ c.args.number c.args.msi c.args.spot
    (forwarding _ c.args.self.now c.args.number c.args.msi c.args.spot c.self.view_is c.recall.ensures.whole c.requires.at c.requires.pass)
    (subst (λ (z : CoreState). MayGo z (Delivered c.args.msi)) (sym c.self.view_is) c.requires.may)

pub invariant_of-self : goal.invariant_of-self
invariant_of-self c = goes_on _ _ (Delivered c.args.msi) (subst (λ (z : CoreState). MayGo z (Delivered c.args.msi))
    (sym c.self.view_is) c.requires.may) (goes c)

pub returns : goal.returns
returns c = rw (← c.self.view_is) (goes c)
