use Rattle.aia_laws.proofs.RunLemmas.{reads_the_same}
use Rattle.aia_laws.proofs.guests.a_guest_reads_from_memory_what_it_would_in_a_file.Goals as goal

pub returns : goal.returns
returns c = reads_the_same
