use Rattle.std.proofs.Common.{refl}
use Rattle.aia_model.specs.declared.line.Line.TheVariants as lines
use Rattle.aia_model.specs.declared.want.Want.TheVariants.{Leave}
use Rattle.aia_uses.proofs.moves.what_lands_within_a_move.Goals as goal

pub returns-clause-asked_at_fence : goal.returns-clause-asked_at_fence
returns-clause-asked_at_fence c = λ h vm vcpu g i ok fence asks.
    c.stores_in_flight_ask_within_a_move.ensures.asked h (lines.Step vm vcpu) g i ok fence asks

pub returns-clause-asked_by_a_move : goal.returns-clause-asked_by_a_move
returns-clause-asked_by_a_move c = λ h vm vcpu g i ok asks.
    c.stores_in_flight_ask_within_a_move.ensures.asked h (lines.Move vm vcpu Leave) g i ok refl asks

pub returns-clause-stays_in_a_step : goal.returns-clause-stays_in_a_step
returns-clause-stays_in_a_step c = λ h vm vcpu g i is.
    c.stores_in_flight_ask_within_a_move.ensures.stays h (lines.Step vm vcpu) g i refl is

pub returns-clause-stays_in_a_move : goal.returns-clause-stays_in_a_move
returns-clause-stays_in_a_move c = λ h vm vcpu g i is.
    c.stores_in_flight_ask_within_a_move.ensures.stays h (lines.Move vm vcpu Leave) g i refl is

pub returns-clause-unasked_in_a_step : goal.returns-clause-unasked_in_a_step
returns-clause-unasked_in_a_step c = λ h vm vcpu g i was is.
    c.stores_in_flight_ask_within_a_move.ensures.unasked h (lines.Step vm vcpu) g i refl was is

pub returns-clause-unasked_in_a_move : goal.returns-clause-unasked_in_a_move
returns-clause-unasked_in_a_move c = λ h vm vcpu g i was is.
    let asked = c.stores_in_flight_ask_within_a_move.ensures.unasked h (lines.Move vm vcpu Leave) g i refl was is in
    (asked.0, asked.2)
