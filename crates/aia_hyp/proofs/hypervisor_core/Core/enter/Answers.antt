use Rattle.std.proofs.Common.{refl, subst, arith}
use Rattle.std.specs.Prelude.{slice_index_or}
use Rattle.aia_model.specs.declared.answer.Answer.TheVariants.{Okay}
use Rattle.aia_model.specs.declared.line.Line.TheVariants.{Enter}
use Rattle.aia_hyp_values.specs.Core.{CoreState, no_record, parked_at}
use Rattle.aia_hyp_values.specs.Memory.{EntersFrom}
use Rattle.aia_hyp_values.specs.Stands.{CoreTakes, answer_by}
use Rattle.aia_hyp_values.proofs.EventLemmas.{still}
use Rattle.aia_hyp_values.proofs.MoveCalls.{who_low}
use Rattle.aia_hyp_values.proofs.RunLines.{enters, no_vcpu_to_enter}
use Rattle.aia_hyp.proofs.hypervisor_core.Core.enter.Goals.{After-enter_in}
use Rattle.aia_hyp.proofs.hypervisor_core.Core.enter.Goals as goal

pub returns-in_default : goal.returns-in_default
returns-in_default c = rw (← c.self.view_is) (no_vcpu_to_enter _ c.args.vm c.args.vcpu c.in_default.ensures.none)

pub enter_in-requires : goal.enter_in-requires
enter_in-requires c = who_low (record {
  world = c.self.inside.fabric;
  leases = c.self.inside.pool;
  vcpus = c.self.inside.vcpus.items;
  selects =
      c.self.inside.selects;
  passes = c.self.inside.passes;
}) c.in-Some.found c.self.invariant c.in-Some.ensures.there

taken : (c : After-enter_in) → CoreTakes (record {
  world = c.self.inside.fabric;
  leases = c.self.inside.pool;
  vcpus = c.self.inside.vcpus.items;
  selects = c.self.inside.selects;
  passes =
      c.self.inside.passes;
}) (record {
  world = c.self.inside.fabric;
  leases = c.self.inside.pool;
  vcpus = c.enter_in.new.vcpus.items;
  selects =
      c.self.inside.selects;
  passes = c.self.inside.passes;
}) (Enter c.args.vm c.args.vcpu) (answer_by (λ _. Okay) c.enter_in.result)
taken c =
    let x : CoreState = record {
      world = c.self.inside.fabric;
      leases = c.self.inside.pool;
      vcpus = c.self.inside.vcpus.items;
      selects =
          c.self.inside.selects;
      passes = c.self.inside.passes;
    } in
    let y : CoreState = record {
      world = c.self.inside.fabric;
      leases = c.self.inside.pool;
      vcpus = c.enter_in.new.vcpus.items;
      selects =
          c.self.inside.selects;
      passes = c.self.inside.passes;
    } in
    let given = answer_by (λ _. Okay) c.enter_in.result in
    let found = c.in-Some.found in
    let is = c.in-Some.ensures.there in
    let named = c.in-Some.ensures.named in
    subst (λ vm. CoreTakes x y (Enter vm c.args.vcpu) given) named.0 (subst (λ vcpu. CoreTakes x y (Enter found.vm vcpu) given) named.1
    (enters x y found.vm found.vcpu _ given (record { there = is.there; world = refl; leases = refl; selects = refl; passes = refl }) refl
    (subst (λ q. EntersFrom (parked_at (slice_index_or x.vcpus q no_record).stay) x.vcpus y.vcpus q given) is.slot c.enter_in.ensures.enters)))

pub invariant_of-self : goal.invariant_of-self
invariant_of-self c = still _ _ _ _ (taken c) c.self.invariant

pub returns : goal.returns
returns c = rw (← c.self.view_is) (taken c)
