use Rattle.aia_aplic_values.proofs.OwnerLaw.{same_sourcecfg, same_source}
use Rattle.aia_aplic_values.proofs.laws.to_delegate_again_changes_nothing.Goals as goal

pub returns-clause-registers : goal.returns-clause-registers
returns-clause-registers c = same_sourcecfg

pub returns-clause-sources : goal.returns-clause-sources
returns-clause-sources c = same_source
