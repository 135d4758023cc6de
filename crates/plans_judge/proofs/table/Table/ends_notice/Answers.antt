use Rattle.std.proofs.Common.{◌∙◌, ap, length}
use Rattle.std.specs.Prelude.{List}
use Rattle.plans_rules.specs.Setting.{all_below}
use Rattle.plans_judge.specs.declared.word.Word.{Word}
use Rattle.plans_judge.specs.Table.{is_reported_at}
use Rattle.plans_judge.proofs.StandsLemmas.{reported_is, where_asked}
use Rattle.plans_judge.proofs.table.Table.ends_notice.Goals as goal

pub returns-then-self : goal.returns-then-self
returns-then-self c = λ producers done v. where_asked _ _ _ c.if-self.true
    (c.all_reported.ensures ∙ ap (λ (l : List Word). all_below (is_reported_at l) (length l)) c.deref.ensures.value
    ∙ reported_is c.args.self.now producers done v)
