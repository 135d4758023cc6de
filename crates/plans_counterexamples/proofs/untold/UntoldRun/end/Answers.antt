use Rattle.std.proofs.Common.{◌≡◌, sym, ap, subst, ◌∙◌, length, arith}
use Rattle.plans_rules.specs.Setting.{setting_of}
use Rattle.plans_counterexamples.specs.Untold.{IsWatched, untold_end, watch_extra, watch_upto}
use Rattle.plans_counterexamples.proofs.UntoldLemmas.{watched_next, watched_whole}
use Rattle.plans_counterexamples.proofs.untold.UntoldRun.end.Goals as goal

pub loop-at-preserved : goal.loop-at-preserved
loop-at-preserved c =
    watched_next c.args.terms c.args.plan.now c.args.self c.loop-at.at _ _ _ _ _ c.loop-at-test.true c.producer_of-producer.ensures
    c.loop-at.invariant c.extra-reached.ensures c.after-watch.ensures

pub returns-clause-exact : goal.returns-clause-exact
returns-clause-exact c =
    let whole : c.loop-at.at ≡ length c.args.plan.now = omega (arith, c.loop-at-test.false, c.loop-at.auto.at-end) in
    c.extra.ensures ∙ ap (watch_extra c.args.terms c.args.self (length c.args.plan.now))
    (c.loop-at.invariant ∙ ap (watch_upto c.args.terms c.args.plan.now c.args.self) whole)

pub returns-clause-follows : goal.returns-clause-follows
returns-clause-follows c = λ producers inside.
    let whole : c.loop-at.at ≡ length c.args.plan.now = omega (arith, c.loop-at-test.false, c.loop-at.auto.at-end) in
    subst (λ w. IsWatched c.args.self w (untold_end (setting_of producers c.args.terms) c.args.plan.now c.args.self))
    (sym (c.extra.ensures ∙ ap (watch_extra c.args.terms c.args.self (length c.args.plan.now))
    (c.loop-at.invariant ∙ ap (watch_upto c.args.terms c.args.plan.now c.args.self) whole)))
    (watched_whole producers c.args.terms c.args.plan.now c.args.self inside)
