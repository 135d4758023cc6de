use Rattle.std.proofs.Common.{◌+◌, ◌≤◌, length}
use Rattle.plans_text.specs.PlanFile.{AreInFile}
use Rattle.plans_text.proofs.StreamLemmas.{Fed}
use Rattle.plans_text.proofs.plan_reader.PlanFileReader.feed.Given as goal

abbrev pub invariant-loop-end : goal.invariant-loop-end
invariant-loop-end l = record {
  fed : Fed l.fn.self l.self l.fn.piece l.left;
  inside : AreInFile l.self.file.draft;
  few : l.self.file.lines + length l.left ≤ l.fn.self.file.lines + length l.fn.piece;
}

abbrev pub decreases-loop-end : goal.decreases-loop-end
decreases-loop-end l = length l.left
