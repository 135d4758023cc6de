use Rattle.aia_hyp_values.proofs.WaysInCore.{rest_in_core}
use Rattle.aia_hyp_values.proofs.laws.all_is_known_of_who_is_at_rest_in_a_core.Goals as goal

pub returns : goal.returns
returns c = rest_in_core
