use Rattle.std.proofs.Common.{refl, sym, ap, subst, ◌∙◌}
use Rattle.aia_vcpu.specs.Vms.{vcpu_of, is_vcpu_in}
use Rattle.aia_model.specs.Passes.{PassedSource}
use Rattle.aia_model.specs.Event.Event.{Relayed}
use Rattle.aia_hyp_values.specs.Core.{CoreState}
use Rattle.aia_hyp_values.specs.Stands.{CoreGoes, MayGo}
use Rattle.aia_hyp_values.proofs.ForwardLemmas.{goes_on}
use Rattle.aia_hyp_values.proofs.RelayLemmas.{calls_go, may_relay}
use Rattle.aia_hyp.proofs.hypervisor_core.Core.relay.Goals.{After-slot_store}
use Rattle.aia_hyp.proofs.hypervisor_core.Core.relay.Goals as goal

abbrev old : After-slot_store → CoreState
old c = record {
  world = c.self.inside.fabric;
  leases = c.self.inside.pool;
  vcpus = c.self.inside.vcpus.items;
  selects = c.self.inside.selects;
  passes = c.self.inside.passes;
}

abbrev new : After-slot_store → CoreState
new c = record {
  world = c.slot_store.new.self;
  leases = c.self.inside.pool;
  vcpus = c.self.inside.vcpus.items;
  selects = c.self.inside.selects;
  passes = c.self.inside.passes;
}

may : (c : After-slot_store) → MayGo (old c) (Relayed c.args.number)
may c = subst (λ (z : CoreState). MayGo z (Relayed c.args.number)) (sym c.self.view_is) c.requires

goes : (c : After-slot_store) → CoreGoes (old c) (new c) (Relayed c.args.number)
goes c =
    let few = c.recall_count.ensures in
    let so = may_relay (old c) c.args.number (may c) few in
    calls_go (old c) (new c) c.args.number (record
    { source = c.at-pass.result.source; to = vcpu_of c.at-pass.result.vm c.at-pass.result.vcpu; identity = c.at-pass.result.identity })
    c.reg.new.self c.notice_hart-notice.result c.slot_of-slot.result (record {
      whole = c.recall.ensures.whole;
      few = so.0;
      is = c.at-pass.ensures;
      hart = c.notice_hart-notice.ensures.value;
      slot = c.slot_of-slot.ensures.value;
      there = ap (λ (p : PassedSource). is_vcpu_in c.self.inside.fabric.vms p.to) c.at-pass.ensures ∙ so.1;
      takes = c.reg.ensures.lands;
      others = c.reg.ensures.others;
      stores = c.slot_store.ensures.stores;
      leases = refl;
      vcpus = refl;
      selects = refl;
      passes = refl;
    })

pub invariant_of-self : goal.invariant_of-self
invariant_of-self c = goes_on (old c) (new c) (Relayed c.args.number) (may c) (goes c)

pub returns : goal.returns
returns c = rw (← c.self.view_is) (goes c)
