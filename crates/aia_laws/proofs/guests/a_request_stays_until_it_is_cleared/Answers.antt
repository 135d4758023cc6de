use Rattle.aia_laws.proofs.RequestLemmas.{asked_pending, stays_pending, none_unasked}
use Rattle.aia_laws.proofs.guests.a_request_stays_until_it_is_cleared.Goals as goal

pub returns-clause-asked : goal.returns-clause-asked
returns-clause-asked c = asked_pending

pub returns-clause-stays : goal.returns-clause-stays
returns-clause-stays c = stays_pending

pub returns-clause-unasked : goal.returns-clause-unasked
returns-clause-unasked c = λ h line g i stands one still. none_unasked h line g i stands still one
