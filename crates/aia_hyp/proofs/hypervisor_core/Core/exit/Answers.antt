use Rattle.std.proofs.Common.{◌≡◌, true, sym, ap, subst, ◌∙◌}
use Rattle.aia_vcpu.specs.Vms.{vcpu_of, is_vcpu_in}
use Rattle.aia_model.specs.declared.answer.Answer.TheVariants.{Refused}
use Rattle.aia_model.specs.declared.refusal.Refusal.TheVariants.{Idle}
use Rattle.aia_model.specs.declared.line.Line.TheVariants.{Exit}
use Rattle.aia_hyp_values.specs.Core.{VcpuRecord}
use Rattle.aia_hyp_values.specs.Core.{CoreState, entered_at}
use Rattle.aia_hyp_values.specs.Stands.{CoreTakes}
use Rattle.aia_hyp_values.proofs.RunLines.{not_entered, no_vcpu_to_exit}
use Rattle.aia_hyp.proofs.hypervisor_core.Core.exit.Goals as goal

pub returns-in_default : goal.returns-in_default
returns-in_default c = rw (← c.self.view_is) (no_vcpu_to_exit _ c.args.vm c.args.vcpu c.in_default.ensures.none)

pub returns-in-None : goal.returns-in-None
returns-in-None c =
    let x = c.args.self.now in
    let found = c.in-Some.found in
    let there = subst (λ (z : CoreState). is_vcpu_in z.world.vms (vcpu_of found.vm found.vcpu) ≡ true) c.self.view_is c.in-Some.ensures.there.there in
    let named = c.in-Some.ensures.named in
    subst (λ vm. CoreTakes x x (Exit vm c.args.vcpu) (Refused Idle)) named.0
    (subst (λ vcpu. CoreTakes x x (Exit found.vm vcpu) (Refused Idle)) named.1
    (not_entered x found.vm found.vcpu there (sym (c.entered.ensures ∙ ap (λ (r : VcpuRecord). entered_at r.stay) c.record_of.ensures)
    ∙ c.in-None.is)))
