use Rattle.aia_isolation.proofs.ImageLemmas.{whole_five}
use Rattle.aia_isolation.proofs.instances.an_image_is_carried_from_one_script_to_another.Goals as goal

pub returns-clause-whole : goal.returns-clause-whole
returns-clause-whole c = whole_five
