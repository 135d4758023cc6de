use Rattle.aia_vcpu_places.proofs.StoreLemmas.{device_lands, peer_lands, lands, refetch_kept, places_landed-sizes}
use Rattle.aia_vcpu_places.proofs.laws.a_store_is_held_wherever_it_lands.Goals as goal

pub returns-clause-devices : goal.returns-clause-devices
returns-clause-devices c = device_lands

pub returns-clause-peers : goal.returns-clause-peers
returns-clause-peers c = peer_lands

pub returns-clause-sizes : goal.returns-clause-sizes
returns-clause-sizes c = places_landed-sizes

pub returns-clause-anywhere : goal.returns-clause-anywhere
returns-clause-anywhere c = lands

pub returns-clause-fetched : goal.returns-clause-fetched
returns-clause-fetched c = refetch_kept
