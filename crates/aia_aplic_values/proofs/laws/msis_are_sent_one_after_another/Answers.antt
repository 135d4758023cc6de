use Rattle.aia_aplic_values.proofs.SendingLemmas.{senders_left, msis_next, settled_next}
use Rattle.aia_aplic_values.proofs.laws.msis_are_sent_one_after_another.Goals as goal

pub returns-clause-senders : goal.returns-clause-senders
returns-clause-senders c = senders_left

pub returns-clause-waiting_msis : goal.returns-clause-waiting_msis
returns-clause-waiting_msis c = msis_next

pub returns-clause-with_all_sent : goal.returns-clause-with_all_sent
returns-clause-with_all_sent c = settled_next
