use Rattle.aia_laws.proofs.PartLemmas.{part_loadable, saved_answer, saved_loadable, saved_accepted}
use Rattle.aia_laws.proofs.images.what_is_saved_may_be_loaded.Goals as goal

pub returns-clause-parts : goal.returns-clause-parts
returns-clause-parts c = part_loadable

pub returns-clause-answered : goal.returns-clause-answered
returns-clause-answered c = saved_answer

pub returns-clause-saved : goal.returns-clause-saved
returns-clause-saved c = saved_loadable

pub returns-clause-accepted : goal.returns-clause-accepted
returns-clause-accepted c = saved_accepted
