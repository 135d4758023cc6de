use Rattle.aia_laws.proofs.CauseLemmas.{has_cause}
use Rattle.aia_laws.proofs.notices.a_notice_has_a_cause.Goals as goal

pub returns : goal.returns
returns c = has_cause
