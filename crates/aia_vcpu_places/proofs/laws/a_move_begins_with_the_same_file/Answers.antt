use Rattle.aia_vcpu_places.proofs.MoveEnds.{leave_begins, shift_begins, arrive_begins}
use Rattle.aia_vcpu_places.proofs.laws.a_move_begins_with_the_same_file.Goals as goal

pub returns-clause-leave : goal.returns-clause-leave
returns-clause-leave c = leave_begins

pub returns-clause-shift : goal.returns-clause-shift
returns-clause-shift c = shift_begins

pub returns-clause-arrive : goal.returns-clause-arrive
returns-clause-arrive c n words q hart reach v hand now file saw rest = arrive_begins n words q hart reach v hand now file saw {rest = rest}
