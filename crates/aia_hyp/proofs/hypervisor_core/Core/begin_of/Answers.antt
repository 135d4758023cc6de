use Rattle.std.proofs.Common.{List, length, refl, sym, ap, ◌∙◌, subst, arith}
use Rattle.std.proofs.lemmas.List.{length-set}
use Rattle.aia_fabric_values.specs.Found.{IsFound}
use Rattle.aia_model.specs.declared.answer.Answer.TheVariants.{Okay}
use Rattle.aia_hyp_values.specs.Core.{VcpuRecord}
use Rattle.aia_hyp_values.specs.Core.{CoreState}
use Rattle.aia_hyp_values.specs.Moves.{MoveBegins}
use Rattle.aia_hyp_values.specs.Stands.{answer_by}
use Rattle.aia_hyp_values.proofs.BeginCore.{begins_still}
use Rattle.aia_hyp_values.proofs.MoveCalls.{who_low, begin_call}
use Rattle.aia_hyp.proofs.hypervisor_core.Core.begin_of.Goals.{After-swap_stay}
use Rattle.aia_hyp.proofs.hypervisor_core.Core.begin_of.Goals as goal

begins : (c : After-swap_stay) → MoveBegins (record {
  world = c.self.inside.fabric;
  leases = c.self.inside.pool;
  vcpus = c.self.inside.vcpus.items;
  selects = c.self.inside.selects;
  passes =
      c.self.inside.passes;
})
    (record {
      world = c.self.inside.fabric;
      leases = c.begun-new.new.pool;
      vcpus = c.swap_stay.new.vcpus.items;
      selects = c.self.inside.selects;
      passes = c.self.inside.passes;
    }) c.args.found.vm c.args.found.vcpu c.args.want (answer_by (λ _. Okay) c.begun-new.result.1)
begins c = begin_call _ _ c.args.want c.args.found c.who_of-who.result c.swap_stay-old.result c.begun-new.result.0 _ c.who_of-who.ensures.named
    c.who_of-who.ensures.passes refl (record {
      is_who = subst (λ (x : CoreState). IsFound x.world c.args.found) (sym c.self.view_is) c.requires;
      some = c.self.invariant;
      between = c.swap_stay-old.new.vcpus.items;
      other = c.nowhere.result;
      before = c.swap_stay-old.ensures.before;
      out = c.swap_stay-old.ensures.after;
      back = c.swap_stay.ensures.after;
      selects = refl;
      passes = refl;
    }) c.begun-new.ensures

pub swap_stay-old-requires : goal.swap_stay-old-requires
swap_stay-old-requires c = who_low (record {
  world = c.self.inside.fabric;
  leases = c.self.inside.pool;
  vcpus = c.self.inside.vcpus.items;
  selects = c.self.inside.selects;
  passes = c.self.inside.passes;
}) c.args.found c.self.invariant
    (subst (λ (x : CoreState). IsFound x.world c.args.found) (sym c.self.view_is) c.requires)

pub swap_stay-requires : goal.swap_stay-requires
swap_stay-requires c =
    let room = who_low (record {
      world = c.self.inside.fabric;
      leases = c.self.inside.pool;
      vcpus = c.self.inside.vcpus.items;
      selects =
          c.self.inside.selects;
      passes = c.self.inside.passes;
    }) c.args.found c.self.invariant
    (subst (λ (x : CoreState). IsFound x.world c.args.found) (sym c.self.view_is) c.requires) in
    let same = ap (λ (xs : List VcpuRecord). length xs) c.swap_stay-old.ensures.after ∙ length-set c.self.inside.vcpus.items c.args.found.slot _ in
    omega (arith, room, same)

pub invariant_of-self : goal.invariant_of-self
invariant_of-self c = begins_still _ _ c.args.found.vm c.args.found.vcpu c.args.want _ (begins c) c.self.invariant

pub returns-clause-begins : goal.returns-clause-begins
returns-clause-begins c = rw (← c.self.view_is) (begins c)
