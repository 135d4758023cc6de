use Rattle.aia_domain.proofs.ReadyLemmas.{from_members, from_each, from_rising}
use Rattle.aia_domain.proofs.laws.ready_sources_are_those_to_be_forwarded.Goals as goal

pub returns-clause-members : goal.returns-clause-members
returns-clause-members c = λ d from s. (from_members d from s, λ r. from_each d from s r.0 r.1 r.2)

pub returns-clause-rising : goal.returns-clause-rising
returns-clause-rising c = from_rising
