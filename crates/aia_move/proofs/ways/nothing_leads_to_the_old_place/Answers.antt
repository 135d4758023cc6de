use Rattle.aia_move_values.proofs.WayShut.{shut, others_apart}
use Rattle.aia_move.proofs.ways.nothing_leads_to_the_old_place.Goals as goal

pub returns-clause-shut : goal.returns-clause-shut
returns-clause-shut c = shut

pub returns-clause-others : goal.returns-clause-others
returns-clause-others c = others_apart
