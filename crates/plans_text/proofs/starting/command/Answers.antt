use Rattle.std.proofs.Common.{sym, ◌∙◌}
use Rattle.plans_text.proofs.NumberLemmas.{judged_by_number}
use Rattle.plans_text.proofs.starting.command.Goals as goal

pub returns-clause-done : goal.returns-clause-done
returns-clause-done g c = λ outcome is. judged_by_number _ c.run_arguments.result outcome _ _ _ _ _ _ _ _ c.run_arguments.ensures.ends
    (sym c.exit_code.ensures.by_status ∙ is)
