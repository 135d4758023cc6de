use Rattle.aia_word.proofs.PackedLemmas.{Packs}
use Rattle.aia_word.proofs.packed.extract.Given as goal

abbrev pub invariant-loop-i : goal.invariant-loop-i
invariant-loop-i l = Packs l.x l.mask l.i l.packed l.at
