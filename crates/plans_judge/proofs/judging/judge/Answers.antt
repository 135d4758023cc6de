use Rattle.std.proofs.Common.{◌∙◌, sym}
use Rattle.plans_rules.specs.Setting.{setting_of}
use Rattle.plans_judge.proofs.VerdictLemmas.{ok_is, accepted_safe, accepted_told, broken_unsafe, notice_safe}
use Rattle.plans_judge.proofs.judging.judge.Goals as goal

pub returns-clause-safe : goal.returns-clause-safe
returns-clause-safe c = λ e. accepted_safe (setting_of c.args.producers.now c.args.terms) c.args.plan.now (sym c.in_ok-verdict.ensures ∙ ok_is _ _ e)

pub returns-clause-told : goal.returns-clause-told
returns-clause-told c = λ e memory. accepted_told (setting_of c.args.producers.now c.args.terms) c.args.plan.now
    (sym c.in_ok-verdict.ensures ∙ ok_is _ _ e) memory

pub returns-clause-refused : goal.returns-clause-refused
returns-clause-refused c = λ rule before e ne. broken_unsafe (setting_of c.args.producers.now c.args.terms) c.args.plan.now rule before
    c.requires.inside (sym c.in_ok-verdict.ensures ∙ ok_is _ _ e) ne

pub returns-clause-notice : goal.returns-clause-notice
returns-clause-notice c = λ before e. notice_safe (setting_of c.args.producers.now c.args.terms) c.args.plan.now before
    (sym c.in_ok-verdict.ensures ∙ ok_is _ _ e)
