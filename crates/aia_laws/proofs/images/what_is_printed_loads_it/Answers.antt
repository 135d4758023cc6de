use Rattle.aia_laws.proofs.PartLemmas.{load_printed, load_read, saved_read}
use Rattle.aia_laws.proofs.images.what_is_printed_loads_it.Goals as goal

pub returns-clause-text : goal.returns-clause-text
returns-clause-text c = load_printed

pub returns-clause-reading : goal.returns-clause-reading
returns-clause-reading c = load_read

pub returns-clause-saved : goal.returns-clause-saved
returns-clause-saved c = saved_read
