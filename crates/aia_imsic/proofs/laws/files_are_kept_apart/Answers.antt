use Rattle.aia_file.proofs.PlaceLemmas.{place_within, same_place}
use Rattle.aia_imsic.proofs.laws.files_are_kept_apart.Goals as goal

pub returns-clause-apart : goal.returns-clause-apart
returns-clause-apart c = same_place

pub returns-clause-within : goal.returns-clause-within
returns-clause-within c = place_within
