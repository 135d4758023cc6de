use Rattle.aia_vcpu_places.proofs.PhaseLemmas.{two_ends, closing_knows, drain_knows, drained_knows, enable_knows, looks_knows, last_knows}
use Rattle.aia_vcpu_places.proofs.laws.a_phase_knows_where_things_stand.Goals as goal

pub returns-clause-closing : goal.returns-clause-closing
returns-clause-closing c = closing_knows

pub returns-clause-drain : goal.returns-clause-drain
returns-clause-drain c = drain_knows

pub returns-clause-another : goal.returns-clause-another
returns-clause-another c = two_ends

pub returns-clause-drained : goal.returns-clause-drained
returns-clause-drained c = drained_knows

pub returns-clause-enable : goal.returns-clause-enable
returns-clause-enable c = enable_knows

pub returns-clause-looks : goal.returns-clause-looks
returns-clause-looks c = looks_knows

pub returns-clause-last : goal.returns-clause-last
returns-clause-last c = last_knows
