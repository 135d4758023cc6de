use Rattle.aia_aplic_values.proofs.RiseLaw.{stays, begins, unasked}
use Rattle.aia_aplic_values.proofs.laws.only_a_wire_makes_a_rise.Goals as goal

pub returns-clause-stays : goal.returns-clause-stays
returns-clause-stays c = stays

pub returns-clause-begins : goal.returns-clause-begins
returns-clause-begins c = begins

pub returns-clause-unasked : goal.returns-clause-unasked
returns-clause-unasked c = unasked
