use Rattle.aia_isolation.proofs.ImageLemmas.{said_later, made_alone, fresh, loaded_is}
use Rattle.aia_isolation.proofs.images.a_virtual_hart_is_what_was_loaded_into_it.Goals as goal

pub returns-clause-later : goal.returns-clause-later
returns-clause-later c = said_later

pub returns-clause-unheard : goal.returns-clause-unheard
returns-clause-unheard c = made_alone

pub returns-clause-fresh : goal.returns-clause-fresh
returns-clause-fresh c = fresh

pub returns-clause-loaded : goal.returns-clause-loaded
returns-clause-loaded c = loaded_is
