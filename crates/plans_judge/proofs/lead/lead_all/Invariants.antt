use Rattle.plans_judge.specs.Table.{lead_after}
use Rattle.plans_judge.proofs.AfterLemmas.{SoFar}
use Rattle.plans_judge.proofs.lead.lead_all.Given as goal

abbrev pub invariant-loop-place : goal.invariant-loop-place
invariant-loop-place l = SoFar (lead_after l.step) l.fn.leads l.leads l.place
