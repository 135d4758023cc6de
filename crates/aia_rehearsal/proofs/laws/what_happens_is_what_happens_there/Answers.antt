use Rattle.aia_rehearsal.proofs.EventStands.{event_stands}
use Rattle.aia_rehearsal.proofs.Alone.{alone_stays}
use Rattle.aia_rehearsal.proofs.laws.what_happens_is_what_happens_there.Goals as goal

pub returns-clause-stands : goal.returns-clause-stands
returns-clause-stands c = event_stands

pub returns-clause-alone : goal.returns-clause-alone
returns-clause-alone c w u r t event = alone_stays event w u r t
