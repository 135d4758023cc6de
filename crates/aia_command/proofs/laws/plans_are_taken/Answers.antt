use Rattle.aia_command.proofs.SpelledLemmas.{audit_asked}
use Rattle.aia_command.proofs.laws.plans_are_taken.Goals as goal

pub returns-clause-printed : goal.returns-clause-printed
returns-clause-printed c = audit_asked
