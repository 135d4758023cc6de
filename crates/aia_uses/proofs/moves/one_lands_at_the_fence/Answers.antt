use Rattle.std.proofs.Common.{refl}
use Rattle.aia_vcpu.specs.Vms.{vcpu_of}
use Rattle.aia_model.specs.declared.line.Line.TheVariants as lines
use Rattle.aia_uses.specs.Worked.{in_flight, moving}
use Rattle.aia_uses.proofs.Facts.{fence_allowed, at_fence, one_in_flight, silent_before, asked_after, asked_while_moving}
use Rattle.aia_uses.proofs.moves.one_lands_at_the_fence.Goals as goal

pub returns-clause-asked : goal.returns-clause-asked
returns-clause-asked c = c.stores_in_flight_ask_within_a_move.ensures.asked in_flight (lines.Step 0 0) (vcpu_of 0 0) 1 fence_allowed at_fence
    one_in_flight

pub returns-clause-stays : goal.returns-clause-stays
returns-clause-stays c = c.stores_in_flight_ask_within_a_move.ensures.stays moving (lines.Step 0 0) (vcpu_of 0 0) 1 refl asked_while_moving

pub returns-clause-unasked : goal.returns-clause-unasked
returns-clause-unasked c = (c.stores_in_flight_ask_within_a_move.ensures.unasked in_flight (lines.Step 0 0) (vcpu_of 0 0) 1 refl silent_before
    asked_after).1
