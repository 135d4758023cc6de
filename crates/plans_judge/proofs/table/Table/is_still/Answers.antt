use Rattle.std.proofs.Common.{◌∙◌, ap, length}
use Rattle.std.specs.Prelude.{List}
use Rattle.plans_rules.specs.Setting.{all_below}
use Rattle.plans_judge.specs.declared.lead.Lead.{Lead}
use Rattle.plans_judge.specs.Table.{is_calm_at}
use Rattle.plans_judge.proofs.StandsLemmas.{calm_is}
use Rattle.plans_judge.proofs.table.Table.is_still.Goals as goal

pub returns : goal.returns
returns c = λ producers done v. c.all_calm.ensures ∙ ap (λ (l : List Lead). all_below (is_calm_at l) (length l)) c.deref.ensures.value
    ∙ calm_is c.args.self.now producers done v
