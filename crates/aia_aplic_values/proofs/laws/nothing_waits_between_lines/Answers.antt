use Rattle.aia_model.proofs.WaitingLemmas.{none_waits_settled, none_waits}
use Rattle.aia_aplic_values.proofs.laws.nothing_waits_between_lines.Goals as goal

pub returns-clause-sent : goal.returns-clause-sent
returns-clause-sent c = none_waits_settled

pub returns-clause-between : goal.returns-clause-between
returns-clause-between c = none_waits
