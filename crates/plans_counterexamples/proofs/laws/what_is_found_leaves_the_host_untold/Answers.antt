use Rattle.plans_counterexamples.proofs.UntoldLemmas.{found_leaves_untold}
use Rattle.plans_counterexamples.proofs.laws.what_is_found_leaves_the_host_untold.Goals as goal

pub returns : goal.returns
returns c = found_leaves_untold
