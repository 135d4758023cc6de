use Rattle.aia_aplic_values.proofs.AimSteps.{passable-stands}
use Rattle.aia_aplic_values.proofs.PassingLemmas.{harts-stand, target_in-stands}
use Rattle.aia_aplic_values.proofs.laws.what_is_kept_is_what_may_be_passed.Goals as goal

pub returns-clause-harts : goal.returns-clause-harts
returns-clause-harts c = harts-stand

pub returns-clause-passable : goal.returns-clause-passable
returns-clause-passable c = passable-stands

pub returns-clause-target : goal.returns-clause-target
returns-clause-target c = target_in-stands
