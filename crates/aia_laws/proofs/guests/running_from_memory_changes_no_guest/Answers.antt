use Rattle.aia_laws.proofs.RunLemmas.{enters_same, exits_same}
use Rattle.aia_laws.proofs.guests.running_from_memory_changes_no_guest.Goals as goal

pub returns-clause-enters : goal.returns-clause-enters
returns-clause-enters c = enters_same

pub returns-clause-exits : goal.returns-clause-exits
returns-clause-exits c = exits_same
