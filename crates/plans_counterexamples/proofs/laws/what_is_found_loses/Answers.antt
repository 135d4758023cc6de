use Rattle.plans_counterexamples.proofs.FoundLemmas.{found_loses}
use Rattle.plans_counterexamples.proofs.laws.what_is_found_loses.Goals as goal

pub returns : goal.returns
returns c = found_loses
