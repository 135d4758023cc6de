use Rattle.std.proofs.Common.{arith}
use Rattle.aia_word.proofs.PackedLemmas.{spreads_more, spreads_skip, spreads_all}
use Rattle.aia_word.proofs.packed.deposit.Goals as goal
use Rattle.aia_word.proofs.packed.deposit.Goals.{then-mask-i-eq1, else-mask-i-eq1}

pub loop-i-preserved : goal.loop-i-preserved
loop-i-preserved c =
    elim c.if-mask-i-eq1.branch [
      | then-mask-i-eq1 w ↦ rw (w.spread-is, w.at-is)
          (spreads_more c.args.x c.args.mask c.loop-i.i c.loop-i.spread c.loop-i.at (omega arith) w.if-mask-i-eq1.true c.loop-i.invariant)
      | else-mask-i-eq1 w ↦ rw (w.spread-is, w.at-is)
          (spreads_skip c.args.x c.args.mask c.loop-i.i c.loop-i.spread c.loop-i.at (omega arith) w.if-mask-i-eq1.false c.loop-i.invariant)
    ]

pub returns : goal.returns
returns c = spreads_all c.args.x c.args.mask c.loop-i.i c.loop-i.spread c.loop-i.at (omega arith) c.loop-i.invariant
