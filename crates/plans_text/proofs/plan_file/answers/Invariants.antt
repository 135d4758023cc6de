use Rattle.std.proofs.Common.{◌≡◌, ◌+◌, ◌≤◌, length}
use Rattle.plans_text.specs.PlanFile.{AreInFile, none_read, read_of, texts_of, with_texts}
use Rattle.plans_text.proofs.plan_file.answers.Given as goal

abbrev pub invariant-loop-end : goal.invariant-loop-end
invariant-loop-end l = record {
  read : with_texts (read_of l.file) (texts_of l.rest) ≡ with_texts none_read (texts_of l.fn.bytes);
  inside : AreInFile l.file.draft;
  lines : l.file.lines + length l.rest ≤ length l.fn.bytes;
}

abbrev pub decreases-loop-end : goal.decreases-loop-end
decreases-loop-end l = length l.rest
