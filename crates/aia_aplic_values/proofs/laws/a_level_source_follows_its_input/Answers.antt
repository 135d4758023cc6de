use Rattle.aia_aplic_values.proofs.LevelLaw.{level_follows}
use Rattle.aia_aplic_values.proofs.laws.a_level_source_follows_its_input.Goals as goal

pub returns : goal.returns
returns c = level_follows
