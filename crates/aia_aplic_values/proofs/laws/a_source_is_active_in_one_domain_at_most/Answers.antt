use Rattle.aia_aplic_values.proofs.OwnerLaw.{one_owner}
use Rattle.aia_aplic_values.proofs.laws.a_source_is_active_in_one_domain_at_most.Goals as goal

pub returns : goal.returns
returns c = one_owner
