use Rattle.aia_vcpu_places.proofs.MemoryKept.{rest-holds, memory_replaced, memory_has, memory_kept}
use Rattle.aia_vcpu_places.proofs.laws.a_file_in_memory_is_held_whether_it_runs_or_not.Goals as goal

pub returns-clause-rests : goal.returns-clause-rests
returns-clause-rests c = rest-holds

pub returns-clause-replaced : goal.returns-clause-replaced
returns-clause-replaced c = memory_replaced

pub returns-clause-slot : goal.returns-clause-slot
returns-clause-slot c = memory_has

pub returns-clause-kept : goal.returns-clause-kept
returns-clause-kept c = memory_kept
