use Rattle.std.proofs.Common.{◌≤◌, length}
use Rattle.aia_replay.proofs.FeedLemmas.{Fed}
use Rattle.aia_replay.proofs.replayer.Replayer.feed.Given as goal

abbrev pub invariant-loop-end : goal.invariant-loop-end
invariant-loop-end g l = record {
  fed : Fed l.fn.self l.self (g.K.Sink.taken l.fn.sink) (g.K.Sink.taken l.sink) l.fn.piece l.rest;
  later : g.K.Sink.faults l.fn.sink ≤ g.K.Sink.faults l.sink;
}

abbrev pub decreases-loop-end : goal.decreases-loop-end
decreases-loop-end g l = length l.rest
