use Rattle.aia_word.proofs.PackedLemmas.{Spreads}
use Rattle.aia_word.proofs.packed.deposit.Given as goal

abbrev pub invariant-loop-i : goal.invariant-loop-i
invariant-loop-i l = Spreads l.x l.mask l.i l.spread l.at
