use Rattle.std.proofs.Common.{◌∙◌}
use Rattle.plans_judge.proofs.StandsLemmas.{shut_is}
use Rattle.plans_judge.proofs.table.Table.is_shut.Goals as goal

pub returns : goal.returns
returns c = λ producers done v. c.shut_by.ensures ∙ shut_is c.args.self.now producers done v
