use Rattle.aia_word.proofs.PackedLemmas.{packed_bits, packed-lt}
use Rattle.aia_word.proofs.laws.extract_packs_bits.Goals as goal

pub returns-clause-bits : goal.returns-clause-bits
returns-clause-bits c = packed_bits 64

pub returns-clause-fits : goal.returns-clause-fits
returns-clause-fits c = packed-lt 64
