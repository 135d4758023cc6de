use Rattle.aia_file.proofs.PlaceLemmas.{replaced_here, kept_elsewhere}
use Rattle.aia_imsic.proofs.laws.one_file_is_replaced.Goals as goal

pub returns-clause-same : goal.returns-clause-same
returns-clause-same c = replaced_here

pub returns-clause-others : goal.returns-clause-others
returns-clause-others c = kept_elsewhere
