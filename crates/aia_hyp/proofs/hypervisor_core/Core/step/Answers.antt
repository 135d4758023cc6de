use Rattle.std.proofs.Common.{◌≡◌, sym, subst, ◌∙◌}
use Rattle.aia_fabric_values.specs.Found.{IsFound}
use Rattle.aia_hyp_values.specs.Moves.{UnlessRefused}
use Rattle.aia_vcpu.specs.Vms.{vcpu_of}
use Rattle.aia_model.specs.declared.line.Line.TheVariants.{Step}
use Rattle.aia_model.specs.declared.refusal.Refusal.TheVariants.{Idle}
use Rattle.aia_model.specs.declared.answer.Answer.TheVariants.{Refused}
use Rattle.aia_hyp_values.specs.Core.{CoreState}
use Rattle.aia_hyp_values.specs.Moves.{step_answer}
use Rattle.aia_hyp_values.specs.Stands.{StandsForSome, CoreTakes}
use Rattle.aia_hyp_values.proofs.MoveLines.{step_unrefused, step_taken, step_idle, no_step, moved_now}
use Rattle.aia_model.specs.Event.{History}
use Rattle.aia_model.specs.Event.Event.{Stepped}
use Rattle.aia_model.specs.Aim.{aimed_by}
use Rattle.aia_model.specs.Refusal.{refusal}
use Rattle.aia_hyp_values.specs.Passes.{AimsBy}
use Rattle.aia_hyp_values.specs.Stands.{CoreStands}
use Rattle.aia_hyp_values.specs.Targets.{TargetsStand}
use Rattle.aia_hyp_values.specs.Stands.{line_served}
use Rattle.aia_hyp_values.proofs.TargetsLines.{move_step_targets, idle_targets}
use Rattle.aia_hyp.proofs.hypervisor_core.Core.step.Goals as goal

pub returns-in_default-clause-takes : goal.returns-in_default-clause-takes
returns-in_default-clause-takes g c = rw (← c.self.view_is) (no_step _ c.args.vm c.args.vcpu c.in_default.ensures.none)

pub returns-then-not-is_moved-clause-takes : goal.returns-then-not-is_moved-clause-takes
returns-then-not-is_moved-clause-takes g c =
    let named = c.in-Some.ensures.named in
    let who = subst (λ (x : CoreState). IsFound x.world c.in-Some.found) c.self.view_is c.in-Some.ensures.there in
    subst (λ vm. CoreTakes c.args.self.now c.args.self.now (Step vm c.args.vcpu) (Refused Idle)) named.0
    (subst (λ vcpu. CoreTakes c.args.self.now c.args.self.now (Step c.in-Some.found.vm vcpu) (Refused Idle)) named.1
    (step_idle c.args.self.now c.in-Some.found who (sym c.is_moved.ensures ∙ c.if-not-is_moved.true)))

pub step_of-requires-clause-moving : goal.step_of-requires-clause-moving
step_of-requires-clause-moving g c =
    moved_now c.args.self.now c.in-Some.found (subst (λ (x : CoreState). StandsForSome x) c.self.view_is c.self.invariant)
    (subst (λ (x : CoreState). IsFound x.world c.in-Some.found) c.self.view_is c.in-Some.ensures.there)
    (sym c.is_moved.ensures ∙ c.if-not-is_moved.false)

pub returns-clause-takes : goal.returns-clause-takes
returns-clause-takes g c =
    let named = c.in-Some.ensures.named in
    let who = subst (λ (x : CoreState). IsFound x.world c.in-Some.found) c.self.view_is c.in-Some.ensures.there in
    subst (λ vm. CoreTakes c.args.self.now c.step_of.new.self (Step vm c.args.vcpu) (step_answer c.step_of.result)) named.0
    (subst (λ vcpu. CoreTakes c.args.self.now c.step_of.new.self (Step c.in-Some.found.vm vcpu) (step_answer c.step_of.result)) named.1
    (step_taken c.args.self.now c.step_of.new.self c.in-Some.found c.step_of.result who (sym c.is_moved.ensures ∙ c.if-not-is_moved.false)
    c.step_of.ensures.goes))

pub returns-clause-aims : goal.returns-clause-aims
returns-clause-aims g c =
    let named = c.in-Some.ensures.named in
    let found = subst (λ (x : CoreState). IsFound x.world c.in-Some.found) c.self.view_is c.in-Some.ensures.there in
    subst (λ vm. (h : History) → CoreStands c.args.self.now h
    → UnlessRefused (refusal h (Step vm c.args.vcpu))
    (AimsBy g.T.Targets.aimed (aimed_by h (Stepped (vcpu_of vm c.args.vcpu))) c.args.targets.now c.step_of.new.targets)
    (c.step_of.new.targets ≡ c.args.targets.now)) named.0
    (subst (λ vcpu. (h : History) → CoreStands c.args.self.now h
    → UnlessRefused (refusal h (Step c.in-Some.found.vm vcpu))
    (AimsBy g.T.Targets.aimed (aimed_by h (Stepped (vcpu_of c.in-Some.found.vm vcpu))) c.args.targets.now c.step_of.new.targets)
    (c.step_of.new.targets ≡ c.args.targets.now)) named.1
    (λ h stands. step_unrefused c.args.self.now h c.in-Some.found _ _ stands found (sym c.is_moved.ensures ∙ c.if-not-is_moved.false)
    (c.step_of.ensures.aims h stands)))

pub returns-then-not-is_moved-clause-targets : goal.returns-then-not-is_moved-clause-targets
returns-then-not-is_moved-clause-targets g c = λ h good stands told.
    let named = c.in-Some.ensures.named in
    let who = subst (λ (x : CoreState). IsFound x.world c.in-Some.found) c.self.view_is c.in-Some.ensures.there in
    let map = g.T.Targets.map c.args.targets.now in
    subst (λ vm. TargetsStand map (line_served (refusal h (Step vm c.args.vcpu)) h (Step vm c.args.vcpu))) named.0
    (subst (λ vcpu. TargetsStand map (line_served (refusal h (Step c.in-Some.found.vm vcpu)) h (Step c.in-Some.found.vm vcpu))) named.1
    (idle_targets c.args.self.now map h c.in-Some.found stands who (sym c.is_moved.ensures ∙ c.if-not-is_moved.true) told))

pub returns-clause-targets : goal.returns-clause-targets
returns-clause-targets g c = λ h good stands told.
    move_step_targets g.T.Targets.map g.T.Targets.aimed g.met.T.Targets.aims_one h c.args.vm c.args.vcpu c.args.targets.now c.step_of.new.targets good
    (returns-clause-aims g c h stands) told
