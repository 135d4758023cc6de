use Rattle.aia_isolation.proofs.ImageLemmas.{one_save}
use Rattle.aia_isolation.proofs.images.the_parts_of_one_save_are_of_one_image.Goals as goal

pub returns-clause-parts : goal.returns-clause-parts
returns-clause-parts c = one_save
