use Rattle.aia_aplic_values.proofs.OrderLaw.{genmsi_among, among_genmsi, source_among, among_source, senders_in_order}
use Rattle.aia_aplic_values.proofs.laws.what_waits_is_genmsi_and_the_sources_that_are_ready.Goals as goal

pub returns-clause-genmsi : goal.returns-clause-genmsi
returns-clause-genmsi c = λ past d. (genmsi_among past d, among_genmsi past d)

pub returns-clause-sources : goal.returns-clause-sources
returns-clause-sources c = λ past d s. (source_among past d s, λ r. among_source past d s r.0 r.1 r.2)

pub returns-clause-order : goal.returns-clause-order
returns-clause-order c = senders_in_order
