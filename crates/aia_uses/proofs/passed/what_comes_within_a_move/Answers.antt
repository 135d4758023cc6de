use Rattle.aia_model.specs.declared.line.Line.TheVariants as lines
use Rattle.aia_model.specs.declared.want.Want.TheVariants.{Leave}
use Rattle.aia_uses.proofs.PassedFacts.{told_or_lands, told_or_asked, comes}
use Rattle.aia_uses.proofs.passed.what_comes_within_a_move.Goals as goal

pub returns-clause-step : goal.returns-clause-step
returns-clause-step c = λ h x g i stands was is.
    let found = c.none_comes_unasked_where_sources_are_passed.ensures.every_line h (lines.Step x.vm x.vcpu) g i stands was is in
    (found.0, told_or_lands h (lines.Step x.vm x.vcpu) g i found.1)

pub returns-clause-leave : goal.returns-clause-leave
returns-clause-leave c = λ h x g i stands was is.
    let found = c.none_comes_unasked_where_sources_are_passed.ensures.every_line h (lines.Move x.vm x.vcpu Leave) g i stands was is in
    (found.0, told_or_asked (told_or_lands h (lines.Move x.vm x.vcpu Leave) g i found.1))

pub returns-clause-wire : goal.returns-clause-wire
returns-clause-wire c = λ h source level g i stands was is.
    comes h (lines.Wire source level) g i
    (told_or_lands h (lines.Wire source level) g i
    (c.none_comes_unasked_where_sources_are_passed.ensures.every_line h (lines.Wire source level) g i stands was is).1)
