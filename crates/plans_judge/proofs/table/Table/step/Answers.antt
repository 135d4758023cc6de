use Rattle.std.proofs.Common.{rules}
use Rattle.plans_judge.proofs.StandsLemmas.{stands_more}
use Rattle.plans_judge.proofs.table.Table.step.Goals as goal

pub returns-clause-stands : goal.returns-clause-stands
returns-clause-stands c = λ producers done v. stands_more c.args.self.now _ c.args.step c.world-world.result producers done
    (search rules) (search rules)
    c.lead_list.ensures c.step_list.ensures (search rules) (search rules) (search rules) (search rules) (search rules) (search rules) v
