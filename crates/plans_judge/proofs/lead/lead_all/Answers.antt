use Rattle.std.proofs.Common.{arith}
use Rattle.plans_judge.specs.Table.{lead_after}
use Rattle.plans_judge.proofs.AfterLemmas.{one_made, all_made}
use Rattle.plans_judge.proofs.lead.lead_all.Goals as goal

pub loop-place-preserved : goal.loop-place-preserved
loop-place-preserved c = one_made (lead_after c.args.step) _ _ _ _ _ (omega (arith, c.loop-place-test.true, c.loop-place.auto.leads))
    c.after.ensures c.loop-place.invariant

pub returns : goal.returns
returns c = all_made (lead_after c.args.step) _ _ _ (omega (arith, c.loop-place-test.false, c.loop-place.auto.leads)) c.loop-place.invariant
