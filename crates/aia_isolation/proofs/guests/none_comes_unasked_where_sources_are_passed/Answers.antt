use Rattle.aia_isolation.proofs.UnaskedLemmas.{only_asked_or_forwarded, every_line_adds, forwarded_pending}
use Rattle.aia_isolation.proofs.guests.none_comes_unasked_where_sources_are_passed.Goals as goal

pub returns-clause-unasked : goal.returns-clause-unasked
returns-clause-unasked c = only_asked_or_forwarded

pub returns-clause-every_line : goal.returns-clause-every_line
returns-clause-every_line c = every_line_adds

pub returns-clause-forwarded : goal.returns-clause-forwarded
returns-clause-forwarded c = forwarded_pending
