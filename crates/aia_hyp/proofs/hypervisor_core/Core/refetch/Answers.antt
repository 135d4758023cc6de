use Rattle.std.proofs.Common.{refl, subst}
use Rattle.aia_model.specs.declared.line.Line.TheVariants.{Refetch}
use Rattle.aia_model.specs.declared.answer.Answer.TheVariants.{Okay}
use Rattle.aia_hyp_values.specs.Stands.{CoreTakes}
use Rattle.aia_hyp_values.proofs.EventLemmas.{still}
use Rattle.aia_hyp_values.proofs.RefetchLemmas.{refetch_taken, no_entry_to_read}
use Rattle.aia_hyp.proofs.hypervisor_core.Core.refetch.Goals.{After-refetch}
use Rattle.aia_hyp.proofs.hypervisor_core.Core.refetch.Goals as goal

pub returns-in_default : goal.returns-in_default
returns-in_default c = rw (← c.self.view_is) (no_entry_to_read _ c.args.vm c.args.vcpu c.in_default.ensures.none)

taken : (c : After-refetch) → CoreTakes (record {
  world = c.self.inside.fabric;
  leases = c.self.inside.pool;
  vcpus = c.self.inside.vcpus.items;
  selects = c.self.inside.selects;
  passes =
      c.self.inside.passes;
}) (record {
  world = c.refetch.new.self;
  leases = c.self.inside.pool;
  vcpus = c.self.inside.vcpus.items;
  selects =
      c.self.inside.selects;
  passes = c.self.inside.passes;
}) (Refetch c.args.vm c.args.vcpu) Okay
taken c =
    let found = c.in-Some.found in
    let named = c.in-Some.ensures.named in
    subst (λ vm. CoreTakes (record {
      world = c.self.inside.fabric;
      leases = c.self.inside.pool;
      vcpus = c.self.inside.vcpus.items;
      selects =
          c.self.inside.selects;
      passes = c.self.inside.passes;
    })
    (record {
      world = c.refetch.new.self;
      leases = c.self.inside.pool;
      vcpus = c.self.inside.vcpus.items;
      selects = c.self.inside.selects;
      passes = c.self.inside.passes;
    }) (Refetch vm c.args.vcpu) Okay) named.0
    (subst (λ vcpu. CoreTakes (record {
      world = c.self.inside.fabric;
      leases = c.self.inside.pool;
      vcpus = c.self.inside.vcpus.items;
      selects = c.self.inside.selects;
      passes = c.self.inside.passes;
    })
    (record {
      world = c.refetch.new.self;
      leases = c.self.inside.pool;
      vcpus = c.self.inside.vcpus.items;
      selects = c.self.inside.selects;
      passes = c.self.inside.passes;
    }) (Refetch found.vm vcpu) Okay) named.1
    (refetch_taken (record {
      world = c.self.inside.fabric;
      leases = c.self.inside.pool;
      vcpus = c.self.inside.vcpus.items;
      selects =
          c.self.inside.selects;
      passes = c.self.inside.passes;
    })
    (record {
      world = c.refetch.new.self;
      leases = c.self.inside.pool;
      vcpus = c.self.inside.vcpus.items;
      selects = c.self.inside.selects;
      passes = c.self.inside.passes;
    }) found.vm found.vcpu (record {
      whole = c.find.ensures.whole;
      there = c.in-Some.ensures.there.there;
      world = c.refetch.ensures;
      leases = refl;
      vcpus = refl;
      selects = refl;
      passes = refl;
    })))

pub invariant_of-self : goal.invariant_of-self
invariant_of-self c = still _ _ _ _ (taken c) c.self.invariant

pub returns : goal.returns
returns c = rw (← c.self.view_is) (taken c)
