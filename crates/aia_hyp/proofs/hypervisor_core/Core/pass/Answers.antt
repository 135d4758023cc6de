use Rattle.std.proofs.Common.{◌∷◌, subst}
use Rattle.aia_model.specs.Aim.{aimed_by}
use Rattle.aia_model.specs.declared.line.Line.TheVariants as lines
use Rattle.aia_model.specs.Event.Event.{Accepted}
use Rattle.aia_model.specs.Refusal.{refusal}
use Rattle.aia_hyp_values.specs.Passes.{AimsBy}
use Rattle.aia_hyp_values.specs.Stands.{CoreStands}
use Rattle.aia_hyp_values.proofs.PassLemmas.{pass_refused, pass_taken, unless_taken}
use Rattle.aia_hyp_values.proofs.TargetsLines.{pass_targets}
use Rattle.aia_hyp.proofs.hypervisor_core.Core.pass.Goals as goal

pub returns-in-Ok-clause-takes : goal.returns-in-Ok-clause-takes
returns-in-Ok-clause-takes g c =
    let named = c.in-Ok.ensures.named in
    pass_taken c.args.self.now c.pass_to.new.self (g.T.Targets.map c.args.targets.now) c.args.source c.args.vm c.args.vcpu c.args.identity
    c.in-Ok.ensures.refusal (λ h stands tells.
    subst (λ vm. CoreStands c.pass_to.new.self (Accepted (lines.Pass c.args.source vm c.args.vcpu c.args.identity) ∷ h)) named.0
    (subst (λ vcpu. CoreStands c.pass_to.new.self (Accepted (lines.Pass c.args.source c.in-Ok.found.vm vcpu c.args.identity) ∷ h)) named.1
    (c.pass_to.ensures.passes h stands tells)))

pub returns-in-Ok-clause-aims : goal.returns-in-Ok-clause-aims
returns-in-Ok-clause-aims g c = λ h stands tells.
    let named = c.in-Ok.ensures.named in
    unless_taken (refusal h (lines.Pass c.args.source c.args.vm c.args.vcpu c.args.identity)) _ _ (c.in-Ok.ensures.refusal h stands tells)
    (subst (λ vm. AimsBy g.T.Targets.aimed (aimed_by h (Accepted (lines.Pass c.args.source vm c.args.vcpu c.args.identity))) c.args.targets.now
    c.pass_to.new.targets) named.0
    (subst (λ vcpu. AimsBy g.T.Targets.aimed (aimed_by h (Accepted (lines.Pass c.args.source c.in-Ok.found.vm vcpu c.args.identity)))
    c.args.targets.now c.pass_to.new.targets) named.1 (c.pass_to.ensures.aims h stands)))

pub returns-in-Err-clause-takes : goal.returns-in-Err-clause-takes
returns-in-Err-clause-takes g c = pass_refused c.args.self.now (g.T.Targets.map c.args.targets.now) c.args.source c.args.vm c.args.vcpu
    c.args.identity c.in-Err.word c.in-Err.ensures.refusal

pub returns-in-Ok-clause-targets : goal.returns-in-Ok-clause-targets
returns-in-Ok-clause-targets g c = λ h good stands tells told.
    pass_targets g.T.Targets.map g.T.Targets.aimed g.met.T.Targets.aims_one h c.args.source c.args.vm c.args.vcpu c.args.identity c.args.targets.now
    c.pass_to.new.targets good tells (returns-in-Ok-clause-aims g c h stands tells) told
