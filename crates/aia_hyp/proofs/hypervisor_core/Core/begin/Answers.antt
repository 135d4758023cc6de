use Rattle.std.proofs.Common.{subst}
use Rattle.aia_model.specs.declared.line.Line.TheVariants as lines
use Rattle.aia_model.specs.declared.answer.Answer.TheVariants.{Okay}
use Rattle.aia_model.specs.declared.refusal.Refusal.TheVariants as words
use Rattle.aia_model.specs.declared.answer.Answer.TheVariants as answers
use Rattle.aia_hyp_values.specs.Stands.{CoreTakes, answer_by}
use Rattle.aia_hyp_values.proofs.BeginCore.{no_move}
use Rattle.aia_hyp_values.proofs.MoveLines.{begin_taken}
use Rattle.aia_hyp.proofs.hypervisor_core.Core.begin.Goals as goal

pub returns-in_default : goal.returns-in_default
returns-in_default c = rw (← c.self.view_is) (begin_taken _ _ c.args.vm c.args.vcpu c.args.want (answers.Refused words.Range)
    (no_move _ c.args.vm c.args.vcpu c.args.want c.in_default.ensures.none))

pub returns : goal.returns
returns c =
    let named = c.in-Some.ensures.named in
    let given = answer_by (λ _. Okay) c.begin_of.result in
    subst (λ vm. CoreTakes c.args.self.now c.begin_of.new.self (lines.Begin vm c.args.vcpu c.args.want) given) named.0
    (subst (λ vcpu. CoreTakes c.args.self.now c.begin_of.new.self (lines.Begin c.in-Some.found.vm vcpu c.args.want) given) named.1
    (begin_taken c.args.self.now c.begin_of.new.self c.in-Some.found.vm c.in-Some.found.vcpu c.args.want given c.begin_of.ensures.begins))
