use Rattle.aia_uses.proofs.TopLemmas.{has_least}
use Rattle.aia_uses.proofs.claims.one_that_may_be_claimed_has_a_least.Goals as goal

pub returns : goal.returns
returns c = λ file i low high pending enabled passes. has_least file i (low, high, pending, enabled, passes)
