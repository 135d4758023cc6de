use Rattle.std.proofs.Common.{◌∙◌, ap}
use Rattle.std.specs.Prelude.{List, slice_get}
use Rattle.plans_judge.specs.declared.lead.Lead.{Lead}
use Rattle.plans_judge.specs.Table.{led_if_any}
use Rattle.plans_judge.proofs.StandsLemmas.{resumed_is}
use Rattle.plans_judge.proofs.table.Table.is_led_if_any.Goals as goal

pub returns : goal.returns
returns c = λ producers done v. c.led_if_any.ensures ∙ ap (λ (l : List Lead). led_if_any (slice_get l c.args.producer)) c.deref.ensures.value
    ∙ resumed_is c.args.self.now producers done c.args.producer v
