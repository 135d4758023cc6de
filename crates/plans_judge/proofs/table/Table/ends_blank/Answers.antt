use Rattle.std.proofs.Common.{◌∙◌, ap, length}
use Rattle.std.specs.Prelude.{List}
use Rattle.plans_rules.specs.Setting.{all_below}
use Rattle.plans_judge.specs.declared.word.Word.{Word}
use Rattle.plans_judge.specs.Table.{is_blank_at}
use Rattle.plans_judge.proofs.StandsLemmas.{blank_is}
use Rattle.plans_judge.proofs.table.Table.ends_blank.Goals as goal

pub returns : goal.returns
returns c = λ producers done v. c.all_blank.ensures ∙ ap (λ (l : List Word). all_below (is_blank_at l) (length l)) c.deref.ensures.value
    ∙ blank_is c.args.self.now producers done v
