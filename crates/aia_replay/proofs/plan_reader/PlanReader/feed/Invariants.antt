use Rattle.std.proofs.Common.{length}
use Rattle.aia_replay.specs.Plans.{AreInside}
use Rattle.aia_replay.proofs.PlanLemmas.{FedPlan}
use Rattle.aia_replay.proofs.plan_reader.PlanReader.feed.Given as goal

abbrev pub invariant-loop-end : goal.invariant-loop-end
invariant-loop-end l = record {
  fed : FedPlan l.fn.self l.self l.fn.piece l.rest;
  inside : AreInside l.self.plan;
}

abbrev pub decreases-loop-end : goal.decreases-loop-end
decreases-loop-end l = length l.rest
