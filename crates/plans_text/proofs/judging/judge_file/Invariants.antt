use Rattle.std.proofs.Common.{◌≤◌, ◌-◌}
use Rattle.aia_io.specs.declared.limits.TheConstants.{SOURCE_BYTES}
use Rattle.plans_text.proofs.PieceLemmas.{SoFar}
use Rattle.plans_text.proofs.judging.judge_file.Given as goal

abbrev pub invariant-loop-n : goal.invariant-loop-n
invariant-loop-n g l = record {
  so_far : SoFar l.reader (g.S.Source.supply l.fn.source) (g.S.Source.supply l.source) (g.K.Sink.taken l.fn.sink) (g.K.Sink.taken l.sink) l.taken;
  source_later : g.S.Source.faults l.fn.source ≤ g.S.Source.faults l.source;
  sink_later : g.K.Sink.faults l.fn.sink ≤ g.K.Sink.faults l.sink;
}

abbrev pub decreases-loop-n : goal.decreases-loop-n
decreases-loop-n g l = SOURCE_BYTES - l.taken
