use Rattle.aia_hyp_values.proofs.OwnStores.{device_own, landing_own, peer_own, device_others, peer_others}
use Rattle.aia_hyp_values.proofs.laws.a_store_of_a_vm_touches_its_own_alone.Goals as goal

pub returns-clause-devices : goal.returns-clause-devices
returns-clause-devices c = device_own

pub returns-clause-landings : goal.returns-clause-landings
returns-clause-landings c = landing_own

pub returns-clause-peers : goal.returns-clause-peers
returns-clause-peers c = peer_own

pub returns-clause-devices_others : goal.returns-clause-devices_others
returns-clause-devices_others c = device_others

pub returns-clause-peers_others : goal.returns-clause-peers_others
returns-clause-peers_others c = peer_others
