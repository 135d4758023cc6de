use Rattle.std.proofs.Common.{◌∙◌, sym, ap, length}
use Rattle.std.specs.Prelude.{List}
use Rattle.plans_rules.specs.Setting.{all_below}
use Rattle.plans_judge.specs.declared.word.Word.{Word}
use Rattle.plans_judge.specs.Table.{is_taken_at}
use Rattle.plans_judge.proofs.StandsLemmas.{taken_is, all_of_two}
use Rattle.plans_judge.proofs.table.Table.ends_routes.Goals as goal

pub returns-then-all_led : goal.returns-then-all_led
returns-then-all_led c = λ producers done v. all_of_two _ _ _ (sym c.if-all_led.true ∙ c.all_led.ensures producers done v)
    (c.all_taken.ensures ∙ ap (λ (l : List Word). all_below (is_taken_at l) (length l)) c.deref.ensures.value
    ∙ taken_is c.args.self.now producers done v)
