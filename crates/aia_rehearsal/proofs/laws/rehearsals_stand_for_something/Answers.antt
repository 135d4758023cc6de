use Rattle.aia_rehearsal.proofs.Made.{may_arrive, has_left, may_shift}
use Rattle.aia_rehearsal.proofs.Theorem.{next_begins, begun_stands, begun_starts}
use Rattle.aia_rehearsal.proofs.laws.rehearsals_stand_for_something.Goals as goal

pub returns-clause-arrival : goal.returns-clause-arrival
returns-clause-arrival c = may_arrive

pub returns-clause-leave : goal.returns-clause-leave
returns-clause-leave c = has_left

pub returns-clause-next : goal.returns-clause-next
returns-clause-next c w u r t asked_for place o e of alone two none pending enabled =
    next_begins w u r asked_for place o t e of alone two none pending enabled

pub returns-clause-begun : goal.returns-clause-begun
returns-clause-begun c w r b = (begun_stands w r b, begun_starts w r b)

pub returns-clause-shift : goal.returns-clause-shift
returns-clause-shift c = may_shift
