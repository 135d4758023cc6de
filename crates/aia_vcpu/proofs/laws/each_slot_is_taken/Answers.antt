use Rattle.aia_vcpu.proofs.VmLemmas.{slot_taken}
use Rattle.aia_vcpu.proofs.laws.each_slot_is_taken.Goals as goal

pub returns : goal.returns
returns c = slot_taken
