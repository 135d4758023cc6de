use Rattle.aia_hyp_values.proofs.MoveLines.{knows_after, knows_heard}
use Rattle.aia_hyp_values.proofs.laws.a_plan_knows_it_after_every_call.Goals as goal

pub returns-clause-takes : goal.returns-clause-takes
returns-clause-takes c = knows_after

pub returns-clause-hears : goal.returns-clause-hears
returns-clause-hears c = knows_heard
