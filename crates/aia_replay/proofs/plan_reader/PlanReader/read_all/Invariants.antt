use Rattle.std.proofs.Common.{◌≡◌, ◌≤◌, ◌-◌}
use Rattle.aia_replay.specs.Plans.{AreInside}
use Rattle.aia_io.specs.declared.limits.TheConstants.{SOURCE_BYTES}
use Rattle.aia_replay.proofs.PlanLemmas.{PlanReadSoFar}
use Rattle.aia_replay.proofs.plan_reader.PlanReader.read_all.Given as goal

abbrev pub invariant-loop-n : goal.invariant-loop-n
invariant-loop-n g l = record {
  so_far : PlanReadSoFar l.self l.fn.self.plan.words (g.S.Source.supply l.fn.source) (g.S.Source.supply l.source) l.taken;
  inside : AreInside l.self.plan;
  same_ends : (g.S.Source.supply l.source).ends ≡ (g.S.Source.supply l.fn.source).ends;
  within : l.taken ≤ SOURCE_BYTES;
  source_later : g.S.Source.faults l.fn.source ≤ g.S.Source.faults l.source;
}

abbrev pub decreases-loop-n : goal.decreases-loop-n
decreases-loop-n g l = SOURCE_BYTES - l.taken
