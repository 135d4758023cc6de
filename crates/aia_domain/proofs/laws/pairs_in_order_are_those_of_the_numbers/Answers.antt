use Rattle.aia_domain.proofs.OrderedLemmas.{ordered_from, ordered_has, ordered_strict}
use Rattle.aia_domain.proofs.laws.pairs_in_order_are_those_of_the_numbers.Goals as goal

pub returns-clause-members : goal.returns-clause-members
returns-clause-members c = λ f from count p. (ordered_from f from count p, λ r. ordered_has f from count r.0 p r.1 r.2 r.3)

pub returns-clause-rising : goal.returns-clause-rising
returns-clause-rising c = ordered_strict
