use Rattle.std.proofs.Common.{◌∙◌}
use Rattle.plans_judge.proofs.StandsLemmas.{free_is}
use Rattle.plans_judge.proofs.table.Table.lets_free.Goals as goal

pub returns : goal.returns
returns c = λ producers done v. c.free_by.ensures ∙ free_is c.args.self.now producers done _ _ v (c.is_still.ensures producers done v)
    (c.is_shut.ensures producers done v)
