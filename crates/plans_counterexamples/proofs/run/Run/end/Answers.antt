use Rattle.std.proofs.Common.{◌≡◌, sym, ap, subst, ◌∙◌, length, arith}
use Rattle.plans_rules.specs.Setting.{setting_of}
use Rattle.plans_rules.specs.Machine.{all_happened}
use Rattle.plans_counterexamples.specs.Trace.{Follows, trace_after}
use Rattle.plans_counterexamples.specs.Run.{happenings, start_of, trace_extra}
use Rattle.plans_counterexamples.specs.Search.{trace_upto}
use Rattle.plans_counterexamples.proofs.FoundLemmas.{follows_whole}
use Rattle.plans_counterexamples.proofs.SearchLemmas.{traced_more}
use Rattle.plans_counterexamples.proofs.run.Run.end.Goals as goal

pub loop-at-preserved : goal.loop-at-preserved
loop-at-preserved c =
    c.after-trace.ensures ∙ ap (trace_after c.args.self.case _)
    (c.extra-reached.ensures ∙ ap (trace_extra c.args.self c.loop-at.at) c.loop-at.invariant)
    ∙ traced_more c.args.self c.args.terms c.args.plan.now c.loop-at.at _ c.loop-at-test.true

pub returns-clause-exact : goal.returns-clause-exact
returns-clause-exact c =
    let whole : c.loop-at.at ≡ length c.args.plan.now = omega (arith, c.loop-at-test.false, c.loop-at.auto.at-end) in
    c.extra.ensures ∙ ap (trace_extra c.args.self (length c.args.plan.now))
    (c.loop-at.invariant ∙ ap (trace_upto c.args.self c.args.terms c.args.plan.now) whole)

pub returns-clause-follows : goal.returns-clause-follows
returns-clause-follows c = λ producers.
    let whole : c.loop-at.at ≡ length c.args.plan.now = omega (arith, c.loop-at-test.false, c.loop-at.auto.at-end) in
    subst (λ t. Follows c.args.self.case t (all_happened (setting_of producers c.args.terms) (happenings c.args.plan.now c.args.self)
    (start_of (setting_of producers c.args.terms) c.args.self)))
    (sym (c.extra.ensures ∙ ap (trace_extra c.args.self (length c.args.plan.now))
    (c.loop-at.invariant ∙ ap (trace_upto c.args.self c.args.terms c.args.plan.now) whole)))
    (follows_whole producers c.args.terms c.args.plan.now c.args.self)
