use Rattle.aia_rehearsal.proofs.Theorem.{accepted_moves}
use Rattle.aia_rehearsal.proofs.laws.an_accepted_plan_moves_all.Goals as goal

pub returns : goal.returns
returns c = accepted_moves
