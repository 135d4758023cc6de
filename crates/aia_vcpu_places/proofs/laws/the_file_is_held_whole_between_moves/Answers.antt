use Rattle.aia_vcpu_places.proofs.FileLemmas.{resident, resident_replaced, memory-pending, memory-enabled}
use Rattle.aia_vcpu_places.proofs.laws.the_file_is_held_whole_between_moves.Goals as goal

pub returns-clause-resident : goal.returns-clause-resident
returns-clause-resident c = resident

pub returns-clause-replaced : goal.returns-clause-replaced
returns-clause-replaced c = resident_replaced

pub returns-clause-memory_pending : goal.returns-clause-memory_pending
returns-clause-memory_pending c = memory-pending

pub returns-clause-memory_enabled : goal.returns-clause-memory_enabled
returns-clause-memory_enabled c = memory-enabled
