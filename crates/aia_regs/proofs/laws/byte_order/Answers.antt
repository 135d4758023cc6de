use Rattle.aia_regs.proofs.ByteOrderLemmas.{swapped_twice}
use Rattle.aia_regs.proofs.laws.byte_order.Goals as goal

pub returns : goal.returns
returns c = record { twice = swapped_twice }
