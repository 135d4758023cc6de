use Rattle.std.proofs.Common.{arith}
use Rattle.aia_word.proofs.PackedLemmas.{packs_more, packs_skip, packs_all, packs_rest}
use Rattle.aia_word.proofs.packed.extract.Goals as goal
use Rattle.aia_word.proofs.packed.extract.Goals.{then-mask-i-eq1, else-mask-i-eq1}

pub loop-i-preserved : goal.loop-i-preserved
loop-i-preserved c =
    elim c.if-mask-i-eq1.branch [
      | then-mask-i-eq1 w ↦ rw (w.packed-is, w.at-is)
          (packs_more c.args.x c.args.mask c.loop-i.i c.loop-i.packed c.loop-i.at (omega arith) w.if-mask-i-eq1.true c.loop-i.invariant)
      | else-mask-i-eq1 w ↦ rw (w.packed-is, w.at-is)
          (packs_skip c.args.x c.args.mask c.loop-i.i c.loop-i.packed c.loop-i.at (omega arith) w.if-mask-i-eq1.false c.loop-i.invariant)
    ]

pub returns-after-loop-i : goal.returns-after-loop-i
returns-after-loop-i c = packs_all c.args.x c.args.mask c.loop-i.i c.loop-i.packed c.loop-i.at (omega arith) c.loop-i.invariant

pub returns-then-mask-i-eq0 : goal.returns-then-mask-i-eq0
returns-then-mask-i-eq0 c = packs_rest c.args.x c.args.mask c.loop-i.i c.loop-i.packed c.loop-i.at c.if-mask-i-eq0.true c.loop-i.invariant
