use Rattle.std.proofs.Common.{◌≡◌, ◌≤◌, ◌-◌}
use Rattle.aia_io.specs.declared.limits.TheConstants.{SOURCE_BYTES}
use Rattle.aia_replay.proofs.StreamLemmas.{ReadSoFar}
use Rattle.aia_replay.proofs.replayer.Replayer.read_all.Given as goal

abbrev pub invariant-loop-source : goal.invariant-loop-source
invariant-loop-source g l = record {
  so_far : ReadSoFar l.self (g.S.Source.supply l.fn.source) (g.S.Source.supply l.source) (g.K.Sink.taken l.fn.sink) (g.K.Sink.taken l.sink) l.taken;
  same_ends : (g.S.Source.supply l.source).ends ≡ (g.S.Source.supply l.fn.source).ends;
  within : l.taken ≤ SOURCE_BYTES;
  source_later : g.S.Source.faults l.fn.source ≤ g.S.Source.faults l.source;
  sink_later : g.K.Sink.faults l.fn.sink ≤ g.K.Sink.faults l.sink;
}

abbrev pub decreases-loop-source : goal.decreases-loop-source
decreases-loop-source g l = SOURCE_BYTES - l.taken
