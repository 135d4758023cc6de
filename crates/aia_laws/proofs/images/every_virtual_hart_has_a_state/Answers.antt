use Rattle.aia_laws.proofs.ReachedLemmas.{is_state}
use Rattle.aia_laws.proofs.images.every_virtual_hart_has_a_state.Goals as goal

pub returns : goal.returns
returns c = is_state
