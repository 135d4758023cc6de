use Rattle.aia_vcpu_places.proofs.WatchLemmas.{slot_watches, slot_past, told_alike}
use Rattle.aia_vcpu_places.proofs.laws.the_host_is_told_of_what_is_watched.Goals as goal

pub returns-clause-enables : goal.returns-clause-enables
returns-clause-enables c = slot_watches

pub returns-clause-past : goal.returns-clause-past
returns-clause-past c = slot_past

pub returns-clause-notices : goal.returns-clause-notices
returns-clause-notices c = told_alike
