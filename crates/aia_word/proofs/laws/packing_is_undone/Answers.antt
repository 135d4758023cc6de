use Rattle.aia_word.proofs.PackedLemmas.{packed-spread, spread-packed}
use Rattle.aia_word.proofs.laws.packing_is_undone.Goals as goal

pub returns-clause-packed : goal.returns-clause-packed
returns-clause-packed c = packed-spread 64

pub returns-clause-put_back : goal.returns-clause-put_back
returns-clause-put_back c = spread-packed
