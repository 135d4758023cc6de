use Rattle.aia_laws.proofs.ForwardLemmas.{line_asks}
use Rattle.aia_laws.proofs.forwards.what_a_line_forwards_is_pending_after_it.Goals as goal

pub returns : goal.returns
returns c = line_asks
