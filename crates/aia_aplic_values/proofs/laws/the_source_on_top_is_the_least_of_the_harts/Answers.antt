use Rattle.aia_aplic_values.proofs.TopLaw.{on_top, none_on_top}
use Rattle.aia_aplic_values.proofs.laws.the_source_on_top_is_the_least_of_the_harts.Goals as goal

pub returns-clause-found : goal.returns-clause-found
returns-clause-found c = on_top

pub returns-clause-none : goal.returns-clause-none
returns-clause-none c = none_on_top
