use Rattle.aia_fabric_values.proofs.PlaceLemmas.{other_slot_stays}
use Rattle.aia_fabric_values.proofs.laws.a_store_reaches_one_slot.Goals as goal

pub returns-clause-others : goal.returns-clause-others
returns-clause-others c = other_slot_stays
