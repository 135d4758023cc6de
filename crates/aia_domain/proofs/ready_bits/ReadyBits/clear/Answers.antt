use Rattle.std.proofs.Common.{refl, rules}
use Rattle.aia_word.proofs.SummaryLemmas.{none_summarized}
use Rattle.aia_domain.proofs.ready_bits.ReadyBits.clear.Goals as goal

pub invariant_of-self : goal.invariant_of-self
invariant_of-self c = (refl, none_summarized _ (λ s. search rules))
