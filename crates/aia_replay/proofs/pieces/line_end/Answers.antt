use Rattle.aia_io.proofs.CutLemmas.{is_end}
use Rattle.aia_replay.proofs.CutLemmas.{first_place}
use Rattle.aia_replay.proofs.pieces.line_end.Goals as goal

pub returns : goal.returns
returns c = first_place is_end c.args.bytes.now c.memchr.result c.memchr.ensures
