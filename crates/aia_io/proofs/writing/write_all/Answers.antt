use Rattle.std.proofs.Common.{arith}
use Rattle.aia_io.proofs.PieceLemmas.{wrote_more, cut_here}
use Rattle.aia_io.proofs.writing.write_all.Goals as goal

pub loop-at-preserved : goal.loop-at-preserved
loop-at-preserved g c =
    let before = g.K.Sink.taken c.args.sink.now in
    let mid = g.K.Sink.taken c.loop-at.sink in
    let now = g.K.Sink.taken c.write.new.self in
    let bytes = c.args.bytes.now in
    record {
      within = omega (arith, c.in-Took.ensures.bytes.1);
      written = wrote_more before mid now bytes c.loop-at.at c.in-Took.n c.loop-at.invariant.written c.in-Took.ensures.bytes.2;
      later = omega (arith, c.in-Took.ensures.cause);
    }

pub returns-in-Failed-clause-cut : goal.returns-in-Failed-clause-cut
returns-in-Failed-clause-cut g c = cut_here (g.K.Sink.taken c.args.sink.now) (g.K.Sink.taken c.loop-at.sink) (g.K.Sink.taken c.write.new.self)
    c.args.bytes.now c.loop-at.at c.loop-at.invariant.written c.in-Failed.ensures.bytes
