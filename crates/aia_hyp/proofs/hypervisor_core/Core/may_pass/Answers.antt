use Rattle.std.proofs.Common.{◌≡◌, ℕ, Option, Some, None, length, sym, ap, subst, ◌∙◌, arith}
use Rattle.std.specs.Prelude.{is_some}
use Rattle.aia_vcpu.specs.Vms.{vcpu_of, is_vcpu_in}
use Rattle.aia_model.specs.declared.answer.Answer.TheVariants.{Refused}
use Rattle.aia_model.specs.declared.refusal.Refusal.TheVariants.{Busy, Passed}
use Rattle.aia_hyp_values.specs.Core.{CoreState}
use Rattle.aia_hyp_values.specs.Passes.{number_of_pass}
use Rattle.aia_hyp_values.specs.Stands.{RefusesPass}
use Rattle.aia_hyp_values.proofs.PassLemmas.{is_moved, is_passed, is_free}
use Rattle.aia_hyp.proofs.hypervisor_core.Core.may_pass.Goals as goal

pub returns-clause-refusal : goal.returns-clause-refusal
returns-clause-refusal g c =
    let x = c.args.self.now in
    let found = c.in-Some.found in
    let targets = g.T.Targets.map c.args.targets.now in
    let same = c.self.view_is in
    let size : length c.self.inside.passes ≡ length x.passes = ap (λ (z : CoreState). length z.passes) same in
    let free : RefusesPass x targets c.args.source found.vm found.vcpu c.args.identity None =
    is_free x targets c.args.source found.vm found.vcpu c.args.identity (
      ap (λ (z : CoreState). is_vcpu_in z.world.vms (vcpu_of found.vm found.vcpu)) (sym same) ∙ c.in-Some.ensures.there.there,
      sym c.has_identity.ensures ∙ c.if-not-has_identity.false,
      omega (arith, c.if-count-ge-PASSES.false, c.count.ensures.value, size),
    ) (sym c.is_moved.ensures ∙ c.if-is_moved.false)
    (ap (λ (z : CoreState). is_some (number_of_pass z.passes (Some c.args.source))) (sym same)
    ∙ ap (λ (o : Option ℕ). is_some o) (sym c.number_of.ensures) ∙ sym c.is_some.ensures ∙ c.if-is_some.false)
    (sym c.ready.ensures ∙ c.if-not-ready.false) in
    subst (λ vm. RefusesPass x targets c.args.source vm c.args.vcpu c.args.identity None) c.in-Some.ensures.named.0
    (subst (λ vcpu. RefusesPass x targets c.args.source found.vm vcpu c.args.identity None) c.in-Some.ensures.named.1 free)

pub returns-then-is_some-clause-refusal : goal.returns-then-is_some-clause-refusal
returns-then-is_some-clause-refusal g c =
    let x = c.args.self.now in
    let found = c.in-Some.found in
    let targets = g.T.Targets.map c.args.targets.now in
    let same = c.self.view_is in
    let size : length c.self.inside.passes ≡ length x.passes = ap (λ (z : CoreState). length z.passes) same in
    let passed : RefusesPass x targets c.args.source found.vm found.vcpu c.args.identity (Some (Refused Passed)) =
    is_passed x targets c.args.source found.vm found.vcpu c.args.identity (
      ap (λ (z : CoreState). is_vcpu_in z.world.vms (vcpu_of found.vm found.vcpu)) (sym same) ∙ c.in-Some.ensures.there.there,
      sym c.has_identity.ensures ∙ c.if-not-has_identity.false,
      omega (arith, c.if-count-ge-PASSES.false, c.count.ensures.value, size),
    ) (sym c.is_moved.ensures ∙ c.if-is_moved.false)
    (ap (λ (z : CoreState). is_some (number_of_pass z.passes (Some c.args.source))) (sym same)
    ∙ ap (λ (o : Option ℕ). is_some o) (sym c.number_of.ensures) ∙ sym c.is_some.ensures ∙ c.if-is_some.true) in
    subst (λ vm. RefusesPass x targets c.args.source vm c.args.vcpu c.args.identity (Some (Refused Passed))) c.in-Some.ensures.named.0
    (subst (λ vcpu. RefusesPass x targets c.args.source found.vm vcpu c.args.identity (Some (Refused Passed)))
    c.in-Some.ensures.named.1 passed)

pub returns-then-is_moved-clause-refusal : goal.returns-then-is_moved-clause-refusal
returns-then-is_moved-clause-refusal g c =
    let x = c.args.self.now in
    let found = c.in-Some.found in
    let targets = g.T.Targets.map c.args.targets.now in
    let same = c.self.view_is in
    let size : length c.self.inside.passes ≡ length x.passes = ap (λ (z : CoreState). length z.passes) same in
    let moved : RefusesPass x targets c.args.source found.vm found.vcpu c.args.identity (Some (Refused Busy)) =
    is_moved x targets c.args.source found.vm found.vcpu c.args.identity (
      ap (λ (z : CoreState). is_vcpu_in z.world.vms (vcpu_of found.vm found.vcpu)) (sym same) ∙ c.in-Some.ensures.there.there,
      sym c.has_identity.ensures ∙ c.if-not-has_identity.false,
      omega (arith, c.if-count-ge-PASSES.false, c.count.ensures.value, size),
    ) (sym c.is_moved.ensures ∙ c.if-is_moved.true) in
    subst (λ vm. RefusesPass x targets c.args.source vm c.args.vcpu c.args.identity (Some (Refused Busy))) c.in-Some.ensures.named.0
    (subst (λ vcpu. RefusesPass x targets c.args.source found.vm vcpu c.args.identity (Some (Refused Busy))) c.in-Some.ensures.named.1 moved)
