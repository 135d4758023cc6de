use Rattle.aia_replay.proofs.AimLemmas.{stands_with}
use Rattle.aia_replay.proofs.laws.the_targets_of_a_machine_stand_beside_its_core.Goals as goal

pub returns : goal.returns
returns c = stands_with
