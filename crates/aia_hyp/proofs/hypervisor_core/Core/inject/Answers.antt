use Rattle.std.proofs.Common.{◌≡◌, ◌<◌, true, false, length, refl, subst, arith}
use Rattle.std.specs.Prelude.{OnOk}
use Rattle.aia_major.specs.VsMajor.{is_major, with_injection}
use Rattle.aia_vcpu.specs.Vms.{Vcpu, vcpu_of, is_vcpu_in, slot_of}
use Rattle.aia_model.specs.declared.answer.Answer.TheVariants.{Okay}
use Rattle.aia_model.specs.declared.line.Line.TheVariants.{Inject}
use Rattle.aia_hyp_values.specs.Core.{CoreState, MajorsDone}
use Rattle.aia_hyp_values.specs.Stands.{CoreTakes, answer_by}
use Rattle.aia_hyp_values.proofs.EventLemmas.{still}
use Rattle.aia_hyp_values.proofs.MoveCalls.{who_low}
use Rattle.aia_hyp_values.proofs.MajorLemmas.{inject_line, no_such, majors_answered}
use Rattle.aia_hyp.proofs.hypervisor_core.Core.inject.Goals.{After-inject_in}
use Rattle.aia_hyp.proofs.hypervisor_core.Core.inject.Goals as goal

pub inject_in-requires : goal.inject_in-requires
inject_in-requires c = who_low (record {
  world = c.self.inside.fabric;
  leases = c.self.inside.pool;
  vcpus = c.self.inside.vcpus.items;
  selects =
      c.self.inside.selects;
  passes = c.self.inside.passes;
}) c.in-Some.found c.self.invariant c.in-Some.ensures.there

taken : (c : After-inject_in) → CoreTakes (record {
  world = c.self.inside.fabric;
  leases = c.self.inside.pool;
  vcpus = c.self.inside.vcpus.items;
  selects = c.self.inside.selects;
  passes =
      c.self.inside.passes;
}) (record {
  world = c.self.inside.fabric;
  leases = c.self.inside.pool;
  vcpus = c.inject_in.new.vcpus.items;
  selects =
      c.self.inside.selects;
  passes = c.self.inside.passes;
}) (Inject c.args.vm c.args.vcpu c.args.bit c.args.level)
    (answer_by (λ _. Okay) c.inject_in.result)
taken c =
    let x : CoreState = record {
      world = c.self.inside.fabric;
      leases = c.self.inside.pool;
      vcpus = c.self.inside.vcpus.items;
      selects =
          c.self.inside.selects;
      passes = c.self.inside.passes;
    } in
    let is = c.in-Some.ensures.there in
    let named = c.in-Some.ensures.named in
    let same : vcpu_of c.in-Some.found.vm c.in-Some.found.vcpu ≡ vcpu_of c.args.vm c.args.vcpu = λ k. vcpu_of (named.0 k) (named.1 k) in
    let there : is_vcpu_in x.world.vms (vcpu_of c.args.vm c.args.vcpu) ≡ true = subst (λ (g : Vcpu). is_vcpu_in x.world.vms g ≡ true) same is.there in
    let slot : c.in-Some.found.slot ≡ slot_of x.world.vms (vcpu_of c.args.vm c.args.vcpu) =
    subst (λ (g : Vcpu). c.in-Some.found.slot ≡ slot_of x.world.vms g) same is.slot in
    let below = who_low x c.in-Some.found c.self.invariant is in
    let low : slot_of x.world.vms (vcpu_of c.args.vm c.args.vcpu) < length x.vcpus = omega (arith, below, slot) in
    majors_answered (record {
      world = c.self.inside.fabric;
      leases = c.self.inside.pool;
      vcpus = c.self.inside.vcpus.items;
      selects =
          c.self.inside.selects;
      passes = c.self.inside.passes;
    })
    (record {
      world = c.self.inside.fabric;
      leases = c.self.inside.pool;
      vcpus = c.inject_in.new.vcpus.items;
      selects = c.self.inside.selects;
      passes = c.self.inside.passes;
    }) (Inject c.args.vm c.args.vcpu c.args.bit c.args.level) c.args.vm c.args.vcpu (is_major c.args.bit)
    (with_injection c.args.bit c.args.level) (inject_line c.args.vm c.args.vcpu c.args.bit c.args.level) c.inject_in.result
    c.inject_in.ensures.range
    (subst (λ q. OnOk c.inject_in.result (MajorsDone c.self.inside.vcpus.items c.inject_in.new.vcpus.items q
    (with_injection c.args.bit c.args.level))) slot c.inject_in.ensures.ok) c.inject_in.ensures.err there low refl refl refl refl

pub returns-in_default : goal.returns-in_default
returns-in_default c = no_such c.args.self.now c.args.self.now (Inject c.args.vm c.args.vcpu c.args.bit c.args.level) c.args.vm c.args.vcpu
    (is_major c.args.bit) (with_injection c.args.bit c.args.level) (inject_line c.args.vm c.args.vcpu c.args.bit c.args.level)
    (subst (λ (z : CoreState). is_vcpu_in z.world.vms (vcpu_of c.args.vm c.args.vcpu) ≡ false) c.self.view_is c.in_default.ensures.none)

pub invariant_of-self : goal.invariant_of-self
invariant_of-self c = still _ _ _ _ (taken c) c.self.invariant

pub returns : goal.returns
returns c = rw (← c.self.view_is) (taken c)
