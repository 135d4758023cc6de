use Rattle.aia_fabric_values.proofs.LawLemmas.{made_reaches}
use Rattle.aia_fabric_values.proofs.laws.a_new_vm_is_reached_in_its_slots.Goals as goal

pub returns : goal.returns
returns c = made_reaches
