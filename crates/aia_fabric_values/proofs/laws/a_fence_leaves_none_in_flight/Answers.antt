use Rattle.aia_fabric_values.proofs.FlightLemmas.{fence_leaves_none, fence_leaves_others}
use Rattle.aia_fabric_values.proofs.laws.a_fence_leaves_none_in_flight.Goals as goal

pub returns-clause-none : goal.returns-clause-none
returns-clause-none c = fence_leaves_none

pub returns-clause-others : goal.returns-clause-others
returns-clause-others c = fence_leaves_others
