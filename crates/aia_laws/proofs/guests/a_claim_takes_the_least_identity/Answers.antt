use Rattle.aia_laws.proofs.ClaimLemmas.{claim_found, claim_none}
use Rattle.aia_laws.proofs.guests.a_claim_takes_the_least_identity.Goals as goal

pub returns-clause-found : goal.returns-clause-found
returns-clause-found c = claim_found

pub returns-clause-none : goal.returns-clause-none
returns-clause-none c = claim_none
