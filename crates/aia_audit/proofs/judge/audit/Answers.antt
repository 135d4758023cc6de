use Rattle.std.proofs.Common.{◌≡◌, drop, sym, ap, ◌∙◌, arith}
use Rattle.aia_plan.specs.Rule.{failing}
use Rattle.aia_plan.proofs.RuleIsSafe.{rule_is_safe}
use Rattle.aia_audit.specs.Behind.{behind}
use Rattle.aia_audit.proofs.BehindLemmas.{accepted_keeps}
use Rattle.aia_audit.proofs.judge.audit.Goals as goal

pub returns-clause-verdict : goal.returns-clause-verdict
returns-clause-verdict c =
    let none_before : c.loop-at.at ≡ 0 = omega arith in
    c.verdict.ensures c.args.plan.now c.requires.inside
    (c.loop-at.invariant ∙ ap (λ k. behind c.args.kind (drop k c.args.plan.now)) none_before)

pub returns-clause-safe : goal.returns-clause-safe
returns-clause-safe c accepted =
    rule_is_safe c.args.kind c.args.words c.args.plan.now c.requires.inside
    (accepted_keeps (failing c.args.kind c.args.words c.args.plan.now) (sym (returns-clause-verdict c) ∙ accepted))
