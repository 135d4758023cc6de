use Rattle.aia_laws.proofs.AfterLemmas.{moved_same}
use Rattle.aia_laws.proofs.MoveLemmas.{moved_rest}
use Rattle.aia_laws.proofs.guests.no_move_changes_a_guest.Goals as goal

pub returns-clause-file : goal.returns-clause-file
returns-clause-file c = λ h line g moves quiet. (moved_same h line g moves quiet).0

pub returns-clause-rest : goal.returns-clause-rest
returns-clause-rest c = moved_rest
