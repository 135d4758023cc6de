use Rattle.aia_aplic_values.proofs.SendingLemmas.{sent_falls, sent_stays}
use Rattle.aia_aplic_values.proofs.laws.a_source_that_is_sent_is_no_longer_pending.Goals as goal

pub returns-clause-falls : goal.returns-clause-falls
returns-clause-falls c = sent_falls

pub returns-clause-stays : goal.returns-clause-stays
returns-clause-stays c = λ past sender. sent_stays sender past
