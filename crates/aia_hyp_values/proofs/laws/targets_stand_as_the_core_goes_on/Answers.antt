use Rattle.aia_hyp_values.proofs.TargetsLines.{targets_begin, still_targets, may_pass_there}
use Rattle.aia_hyp_values.proofs.laws.targets_stand_as_the_core_goes_on.Goals as goal

pub returns-clause-begins : goal.returns-clause-begins
returns-clause-begins c = targets_begin

pub returns-clause-event : goal.returns-clause-event
returns-clause-event c = still_targets

pub returns-clause-passes : goal.returns-clause-passes
returns-clause-passes c = may_pass_there
