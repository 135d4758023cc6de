use Rattle.aia_laws.proofs.LoadLemmas.{line_loads, line_leaves}
use Rattle.aia_laws.proofs.images.a_line_loads_its_part.Goals as goal

pub returns-clause-own : goal.returns-clause-own
returns-clause-own c = line_loads

pub returns-clause-others : goal.returns-clause-others
returns-clause-others c = line_leaves
