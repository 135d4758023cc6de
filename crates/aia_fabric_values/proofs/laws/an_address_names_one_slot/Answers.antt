use Rattle.aia_fabric_values.proofs.PlaceLemmas.{slot_begins, slot_by_number}
use Rattle.aia_fabric_values.proofs.laws.an_address_names_one_slot.Goals as goal

pub returns : goal.returns
returns c = λ addr q. (λ found. slot_begins addr q found, λ is. slot_by_number addr q is.0 is.1)
