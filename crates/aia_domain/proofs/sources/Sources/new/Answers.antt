use Rattle.std.proofs.Common.{arith}
use Rattle.aia_domain.proofs.WaitingLemmas.{new_keeps}
use Rattle.aia_domain.proofs.sources.Sources.new.Goals as goal

pub invariant_of-result : goal.invariant_of-result
invariant_of-result c = (
  c.requires.harts,
  omega (arith, c.in_ok-each.ensures.length),
  omega (arith, c.in_ok-each.ensures.length, c.requires.few),
  c.in_ok-waiting.ensures.lists,
  new_keeps c.in_ok-each.each.items c.in_ok-waiting.waiting c.args.sources c.in_ok-each.ensures.each (omega (arith, c.in_ok-each.ensures.length))
      c.in_ok-waiting.ensures.pairs c.in_ok-waiting.ensures.ready,
)
