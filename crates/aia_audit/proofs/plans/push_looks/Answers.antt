use Rattle.std.proofs.Common.{arith, [], ◌∷◌}
use Rattle.aia_plan.specs.declared.step.Step.TheVariants.{Look}
use Rattle.aia_audit.proofs.PlanLemmas.{each_pushed}
use Rattle.aia_audit.proofs.plans.push_looks.Goals as goal

pub loop-word-preserved : goal.loop-word-preserved
loop-word-preserved c = record {
  plan = each_pushed (λ w. Look w ∷ []) c.loop-word.word c.args.words c.loop-word.out.items c.push_steps.new.out.items _ (omega arith)
      c.push_steps.ensures.plan c.loop-word.invariant.plan;
  room = omega arith;
}
