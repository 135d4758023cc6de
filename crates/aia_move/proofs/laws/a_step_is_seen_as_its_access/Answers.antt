use Rattle.aia_move_values.proofs.MadeView.{made_view}
use Rattle.aia_move.proofs.laws.a_step_is_seen_as_its_access.Goals as goal

pub returns : goal.returns
returns c = made_view
