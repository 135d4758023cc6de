use Rattle.aia_word.proofs.PackedLemmas.{spread_bits, spread-lt}
use Rattle.aia_word.proofs.laws.deposit_puts_bits_back.Goals as goal

pub returns-clause-bits : goal.returns-clause-bits
returns-clause-bits c = spread_bits 64

pub returns-clause-fits : goal.returns-clause-fits
returns-clause-fits c = spread-lt 64
