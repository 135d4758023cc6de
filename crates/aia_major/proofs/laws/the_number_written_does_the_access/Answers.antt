use Rattle.aia_major.proofs.RegisterLemmas.{sip_access, sie_access}
use Rattle.aia_major.proofs.laws.the_number_written_does_the_access.Goals as goal

pub returns-clause-sip : goal.returns-clause-sip
returns-clause-sip c = sip_access

pub returns-clause-sie : goal.returns-clause-sie
returns-clause-sie c = sie_access
