use Rattle.std.proofs.Common.{◌+◌, if◌then◌else◌, ◌∙◌, ap, arith}
use Rattle.plans_counterexamples.proofs.SearchLemmas.{last_more}
use Rattle.plans_counterexamples.proofs.search.last_by.Goals as goal

pub loop-at-preserved : goal.loop-at-preserved
loop-at-preserved c =
    let more = last_more c.args.route c.args.case c.args.terms c.args.plan.now c.loop-at.at _ c.loop-at.trace _ c.loop-at.last
    (omega (arith, c.loop-at-test.true, c.requires)) c.loop-at.invariant.0 c.after-trace.ensures c.loop-at.invariant.1 in (
      more.0,
      c.if_reached-last.ensures ∙ ap (λ b. if b then c.loop-at.at + 1 else c.loop-at.last) c.reaches_by.ensures ∙ more.1,
    )
