use Rattle.aia_uses.proofs.ClearLemmas.{gone}
use Rattle.aia_uses.proofs.requests.what_a_line_clears_is_gone.Goals as goal

pub returns : goal.returns
returns c = gone (λ h g op i ok writes least. (c.a_claim_takes_the_least_identity.ensures.found h g op i ok writes least).1)
