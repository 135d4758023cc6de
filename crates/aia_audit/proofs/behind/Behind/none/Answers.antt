use Rattle.aia_plan.specs.Rule.{takes_pending, puts_pending, takes_enables, puts_enables}
use Rattle.aia_audit.specs.Behind.{is_late, is_any_time}
use Rattle.aia_audit.proofs.BehindLemmas.{same_behind}
use Rattle.aia_audit.proofs.behind.Behind.none.Goals as goal

pub returns : goal.returns
returns c kind = same_behind _ _ _ _ _ _ (c.none.ensures kind) (c.none-2.ensures takes_pending puts_pending is_late)
    (c.none-3.ensures takes_enables puts_enables is_any_time)
