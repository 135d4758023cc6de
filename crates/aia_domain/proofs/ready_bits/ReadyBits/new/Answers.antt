use Rattle.std.proofs.Common.{refl, rules}
use Rattle.aia_word.proofs.SummaryLemmas.{none_summarized}
use Rattle.aia_domain.proofs.ready_bits.ReadyBits.new.Goals as goal

pub invariant_of-result : goal.invariant_of-result
invariant_of-result c = (refl, none_summarized _ (λ s. search rules))
