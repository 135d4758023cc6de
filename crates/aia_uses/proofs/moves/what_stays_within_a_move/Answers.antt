use Rattle.std.proofs.Common.{refl, ap, ◌∙◌}
use Rattle.aia_vcpu.specs.Vms.{vcpu_of}
use Rattle.aia_model.specs.declared.line.Line.TheVariants as lines
use Rattle.aia_model.specs.declared.want.Want.TheVariants.{Leave}
use Rattle.aia_uses.specs.Worked.{moving}
use Rattle.aia_uses.proofs.Facts.{none_at_fence, asked_while_moving, enabled_while_moving}
use Rattle.aia_uses.proofs.moves.what_stays_within_a_move.Goals as goal

pub returns-clause-begun : goal.returns-clause-begun
returns-clause-begun c = λ h vm vcpu g. c.no_move_changes_a_guest.ensures.file h (lines.Begin vm vcpu Leave) g (λ e. cc) refl

pub returns-clause-whole : goal.returns-clause-whole
returns-clause-whole c = λ h vm vcpu g quiet. c.no_move_changes_a_guest.ensures.file h (lines.Move vm vcpu Leave) g (λ e. cc) quiet

pub returns-clause-step : goal.returns-clause-step
returns-clause-step c = λ h vm vcpu g quiet. c.no_move_changes_a_guest.ensures.file h (lines.Step vm vcpu) g (λ e. cc) quiet

pub returns-clause-land : goal.returns-clause-land
returns-clause-land c = λ h vm k g quiet. c.no_move_changes_a_guest.ensures.file h (lines.Land vm k) g (λ e. cc) quiet

pub returns-clause-rest : goal.returns-clause-rest
returns-clause-rest c = λ h vm vcpu g. c.no_move_changes_a_guest.ensures.rest h (lines.Step vm vcpu) g (λ e. cc)

pub returns-clause-kept : goal.returns-clause-kept
returns-clause-kept c = ap (λ file. file.pending 1)
    (c.no_move_changes_a_guest.ensures.file moving (lines.Step 0 0) (vcpu_of 0 0) (λ e. cc) none_at_fence) ∙ asked_while_moving

pub returns-clause-still_enabled : goal.returns-clause-still_enabled
returns-clause-still_enabled c = ap (λ is. is 1) (c.no_move_changes_a_guest.ensures.rest moving (lines.Step 0 0) (vcpu_of 0 0) (λ e. cc)).3
    ∙ enabled_while_moving
