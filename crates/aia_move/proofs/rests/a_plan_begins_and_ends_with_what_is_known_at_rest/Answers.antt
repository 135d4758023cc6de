use Rattle.aia_move_values.proofs.WayBegins.{leave_all, arrive_all, shift_all, ends_at_rest}
use Rattle.aia_move.proofs.rests.a_plan_begins_and_ends_with_what_is_known_at_rest.Goals as goal

pub returns-clause-leave : goal.returns-clause-leave
returns-clause-leave c = leave_all

pub returns-clause-arrive : goal.returns-clause-arrive
returns-clause-arrive c = arrive_all

pub returns-clause-shift : goal.returns-clause-shift
returns-clause-shift c = shift_all

pub returns-clause-ends : goal.returns-clause-ends
returns-clause-ends c = ends_at_rest
