use Rattle.std.proofs.Common.{arith}
use Rattle.std.proofs.Common.{◌∙◌}
use Rattle.aia_domain.proofs.WaitingLemmas.{told_more, waits_below}
use Rattle.aia_domain.proofs.waiting.tell_all.Goals as goal

pub loop-s-preserved : goal.loop-s-preserved
loop-s-preserved c t = c.set.ensures t ∙ told_more c.args.sources.now c.loop-s.s t c.waits_at.result _ c.waits_at.ensures (c.loop-s.invariant t)

pub returns : goal.returns
returns c s = waits_below c.args.sources.now _ c.loop-s.s s (omega (arith, c.loop-s-test.false)) (c.loop-s.invariant s)
