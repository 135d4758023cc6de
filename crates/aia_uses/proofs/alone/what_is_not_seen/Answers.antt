use Rattle.std.proofs.Common.{ap, ◌∷◌}
use Rattle.aia_model.specs.declared.line.Line.TheVariants as lines
use Rattle.aia_model.specs.Event.Event.{Accepted, Began, Stepped, Landed}
use Rattle.aia_uses.proofs.EventsFacts.{began_unseen, step_unseen, enter_unseen, save_unseen, wire_unseen, other_unseen, landing_unseen}
use Rattle.aia_uses.proofs.alone.what_is_not_seen.Goals as goal

pub returns-clause-guest : goal.returns-clause-guest
returns-clause-guest c = λ h k g same.
    let is = c.moves_and_others_are_not_seen.ensures.guest h k g same in
    (ap (λ state. state.file) is, ap (λ state. state.select) is, ap (λ state. state.majors) is)

pub returns-clause-replies : goal.returns-clause-replies
returns-clause-replies c = λ h k g same. c.moves_and_others_are_not_seen.ensures.replies h k g same

pub returns-clause-scripts : goal.returns-clause-scripts
returns-clause-scripts c = λ script other g same. c.moves_and_others_are_not_seen.ensures.scripts script other g same

pub returns-clause-begun : goal.returns-clause-begun
returns-clause-begun c = λ h move g.
    ap (λ state. state.file) (c.moves_and_others_are_not_seen.ensures.guest (Began move ∷ h) h g (began_unseen g.vm h move))

pub returns-clause-stepped : goal.returns-clause-stepped
returns-clause-stepped c = λ h x g.
    ap (λ state. state.file) (c.moves_and_others_are_not_seen.ensures.guest (Stepped x ∷ h) h g (step_unseen g.vm h x))

pub returns-clause-entered : goal.returns-clause-entered
returns-clause-entered c = λ h vm vcpu g.
    c.moves_and_others_are_not_seen.ensures.replies (Accepted (lines.Enter vm vcpu) ∷ h) h g (enter_unseen g.vm h vm vcpu)

pub returns-clause-saved : goal.returns-clause-saved
returns-clause-saved c = λ h vm vcpu k g.
    ap (λ state. state.file)
    (c.moves_and_others_are_not_seen.ensures.guest (Accepted (lines.Save vm vcpu k) ∷ h) h g (save_unseen g.vm h vm vcpu k))

pub returns-clause-wired : goal.returns-clause-wired
returns-clause-wired c = λ h source level g.
    ap (λ state. state.file)
    (c.moves_and_others_are_not_seen.ensures.guest (Accepted (lines.Wire source level) ∷ h) h g (wire_unseen g.vm h source level))

pub returns-clause-others : goal.returns-clause-others
returns-clause-others c = λ h vm addr value g other.
    ap (λ state. state.file)
    (c.moves_and_others_are_not_seen.ensures.guest (Accepted (lines.Msi vm addr value) ∷ h) h g (other_unseen g.vm h vm addr value other))

pub returns-clause-landed : goal.returns-clause-landed
returns-clause-landed c = λ h vm k g other.
    ap (λ state. state.file) (c.moves_and_others_are_not_seen.ensures.guest (Landed vm k ∷ h) h g (landing_unseen g.vm h vm k other))
