use Rattle.aia_regs.proofs.TopLemmas.{least_found, least_none}
use Rattle.aia_regs.proofs.laws.the_least_pair_is_the_least.Goals as goal

pub returns-clause-found : goal.returns-clause-found
returns-clause-found c = least_found

pub returns-clause-none : goal.returns-clause-none
returns-clause-none c = least_none
