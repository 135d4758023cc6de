use Rattle.aia_major.proofs.RegisterLemmas.{held_at_majors}
use Rattle.aia_major.proofs.laws.hvip_holds_majors.Goals as goal

pub returns-clause-ones : goal.returns-clause-ones
returns-clause-ones c = held_at_majors
