use Rattle.std.proofs.Common.{sym, ◌∙◌}
use Rattle.plans_counterexamples.proofs.UntoldLemmas.{inside_of, it_leaves_untold}
use Rattle.plans_counterexamples.proofs.untold.UntoldRun.leaves_untold.Goals as goal

pub returns-then-can_come-clause-untold : goal.returns-then-can_come-clause-untold
returns-then-can_come-clause-untold c =
    let can = sym c.can_come.ensures ∙ c.if-can_come.true in
    λ e. it_leaves_untold c.args.producers.now c.args.terms c.args.plan.now c.args.self c.end.result can
    (c.end.ensures.follows c.args.producers.now (inside_of c.args.producers.now c.args.terms c.args.self can)) (sym c.is_untold.ensures ∙ e)
