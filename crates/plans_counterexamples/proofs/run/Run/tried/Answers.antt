use Rattle.std.proofs.Common.{sym, length, ◌∙◌}
use Rattle.plans_rules.proofs.BoolLaws.{and_left, and_right}
use Rattle.plans_counterexamples.specs.Run.{can_be}
use Rattle.plans_counterexamples.proofs.RunLemmas.{it_loses}
use Rattle.plans_counterexamples.proofs.FoundLemmas.{shown_bad}
use Rattle.plans_counterexamples.proofs.run.Run.tried.Goals as goal

pub returns-then-is_shown-clause-loses : goal.returns-then-is_shown-clause-loses
returns-then-is_shown-clause-loses c =
    let both = sym c.is_shown.ensures ∙ c.if-is_shown.true in
    it_loses c.args.producers.now c.args.terms c.args.plan.now c.args.self _ (and_left _ _ both) (c.end-end.ensures.follows c.args.producers.now)
    (shown_bad c.args.rule c.args.self (length c.args.producers.now) c.args.terms _ (and_right (can_be c.args.self c.args.terms c.args.producers.now) _ both))
