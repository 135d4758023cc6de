use Rattle.std.proofs.Common.{◌≡◌, ◌∙◌, subst, length, arith}
use Rattle.plans_judge.specs.Table.{Stands}
use Rattle.plans_judge.specs.Verdicts.{rules_of, past}
use Rattle.plans_judge.proofs.VerdictLemmas.{past_next, goes_on, comes_to_end}
use Rattle.plans_judge.proofs.judging.break_in.Goals as goal

pub loop-before-preserved : goal.loop-before-preserved
loop-before-preserved c =
    let v = c.loop-before.invariant.0 in
    let same = c.loop-before.invariant.1 in (
      subst (Stands c.step.new.self c.args.producers.now) (past_next c.args.plan.now c.loop-before.before _ c.loop-before-test.true)
          (c.step.ensures.stands c.args.producers.now _ v),
      c.step.ensures.terms ∙ same,
      goes_on (rules_of c.args.part) c.args.producers.now _ c.args.terms c.args.plan.now c.loop-before.before _ _ same c.loop-before-test.true
          (c.refusing.ensures c.args.producers.now (past c.args.plan.now c.loop-before.before) v) c.in-None.is ∙ c.loop-before.invariant.2,
    )

pub returns : goal.returns
returns c =
    let whole : c.loop-before.before ≡ length c.args.plan.now = omega (arith, c.loop-before-test.false, c.loop-before.auto.before-end) in
    let v = subst (λ n. Stands c.loop-before.table c.args.producers.now (past c.args.plan.now n)) whole c.loop-before.invariant.0 in
    comes_to_end (rules_of c.args.part) c.args.producers.now _ c.args.terms c.args.plan.now c.loop-before.before _ c.loop-before.invariant.1 whole
    (c.break_at_end.ensures c.args.producers.now _ v) ∙ c.loop-before.invariant.2
