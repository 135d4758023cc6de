use Rattle.std.proofs.Common.{◌∙◌, arith}
use Rattle.aia_replay.proofs.CutLemmas.{part_fits}
use Rattle.aia_replay.proofs.pieces.keep.Goals as goal

pub returns : goal.returns
returns c = c.extend.ensures ∙ part_fits c.args.line.now.items c.args.part.now c.remaining_capacity-room.result c.min.result
    (omega (arith, c.remaining_capacity-room.ensures)) c.min.ensures
