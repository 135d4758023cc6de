use Rattle.aia_model.proofs.OwnerLemmas.{none_undelegated}
use Rattle.aia_aplic_values.proofs.laws.what_is_not_delegated_is_zero_in_the_child.Goals as goal

pub returns : goal.returns
returns c = none_undelegated
