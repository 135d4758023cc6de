use Rattle.aia_direct.proofs.FrontLemmas.{first_is_least}
use Rattle.aia_direct.proofs.TopLemmas.{top_is_first}
use Rattle.aia_direct.proofs.laws.the_first_candidate_let_through_is_on_top.Goals as goal

pub returns-clause-top : goal.returns-clause-top
returns-clause-top c = top_is_first

pub returns-clause-least : goal.returns-clause-least
returns-clause-least c = λ f threshold from count own. first_is_least threshold f from count own
