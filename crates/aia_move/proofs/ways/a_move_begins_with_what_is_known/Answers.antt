use Rattle.aia_move_values.proofs.WayEnds.{leave_begins, arrive_begins, shift_begins, begun_targets}
use Rattle.aia_move.proofs.ways.a_move_begins_with_what_is_known.Goals as goal

pub returns-clause-leave : goal.returns-clause-leave
returns-clause-leave c = leave_begins

pub returns-clause-arrive : goal.returns-clause-arrive
returns-clause-arrive c = arrive_begins

pub returns-clause-shift : goal.returns-clause-shift
returns-clause-shift c = shift_begins

pub returns-clause-targets : goal.returns-clause-targets
returns-clause-targets c = begun_targets
