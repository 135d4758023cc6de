use Rattle.aia_domain.proofs.CandidateLemmas.{candidates_from, candidates_have, candidates_strict}
use Rattle.aia_domain.proofs.laws.candidates_are_the_sources_that_wait_for_a_hart.Goals as goal

pub returns-clause-members : goal.returns-clause-members
returns-clause-members c = λ d hart p. (candidates_from d hart p, λ r. candidates_have d hart p r.0 r.1 r.2 r.3 r.4)

pub returns-clause-rising : goal.returns-clause-rising
returns-clause-rising c = candidates_strict
