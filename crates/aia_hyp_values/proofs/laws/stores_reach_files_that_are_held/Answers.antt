use Rattle.aia_hyp_values.proofs.DeviceLemmas.{leads_to_own}
use Rattle.aia_model.proofs.HistoryLemmas.{flights_may}
use Rattle.aia_hyp_values.proofs.GuestStores.{devices_held, flying_held, peers_held, none_reaches, none_flies_there}
use Rattle.aia_hyp_values.proofs.MoveLines.{in_force}
use Rattle.aia_hyp_values.proofs.laws.stores_reach_files_that_are_held.Goals as goal

pub returns-clause-devices : goal.returns-clause-devices
returns-clause-devices c = devices_held

pub returns-clause-peers : goal.returns-clause-peers
returns-clause-peers c = peers_held

pub returns-clause-free : goal.returns-clause-free
returns-clause-free c = none_reaches

pub returns-clause-flying : goal.returns-clause-flying
returns-clause-flying c = λ h v k s p good. flying_held h v k s p (flights_may h good)

pub returns-clause-none_flying : goal.returns-clause-none_flying
returns-clause-none_flying c = none_flies_there

pub returns-clause-in_force : goal.returns-clause-in_force
returns-clause-in_force c = in_force

pub returns-clause-own : goal.returns-clause-own
returns-clause-own c = leads_to_own
