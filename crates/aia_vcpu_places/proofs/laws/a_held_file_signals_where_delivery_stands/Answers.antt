use Rattle.aia_vcpu_places.proofs.FileLemmas.{own_signals, next_signals, own_whole}
use Rattle.aia_vcpu_places.proofs.laws.a_held_file_signals_where_delivery_stands.Goals as goal

pub returns-clause-own : goal.returns-clause-own
returns-clause-own c = own_signals

pub returns-clause-next : goal.returns-clause-next
returns-clause-next c = next_signals

pub returns-clause-whole : goal.returns-clause-whole
returns-clause-whole c = own_whole
