use Rattle.std.proofs.Common.{refl, arith}
use Rattle.aia_script.proofs.DigitLemmas.{rows, pair_high, pair_low}
use Rattle.aia_script.proofs.pieces.digit_pair.Goals as goal

pub returns-clause-high : goal.returns-clause-high
unfolding rows
returns-clause-high c = pair_high _ c.args.byte refl (omega arith)

pub returns-clause-low : goal.returns-clause-low
unfolding rows
returns-clause-low c = pair_low _ c.args.byte refl (omega arith)
