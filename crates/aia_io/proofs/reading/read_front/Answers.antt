use Rattle.std.proofs.Common.{drop}
use Rattle.aia_io.proofs.PieceLemmas.{reads_on}
use Rattle.aia_io.proofs.reading.read_front.Goals as goal

pub returns-clause-taken : goal.returns-clause-taken
returns-clause-taken g c =
    reads_on (g.S.Source.supply c.args.source.now) (g.S.Source.supply c.read.new.self) c.read.new.buf (drop c.args.most c.args.piece.now)
    c.read.result c.read.ensures.bytes
