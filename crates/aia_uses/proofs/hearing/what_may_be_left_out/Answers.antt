use Rattle.std.proofs.Common.{ap, sym, ◌∙◌, ◌∷◌}
use Rattle.aia_model.specs.declared.line.Line.TheVariants as lines
use Rattle.aia_model.specs.Event.Event.{Accepted, Began, Landed}
use Rattle.aia_model.specs.StateOf.{state_of}
use Rattle.aia_model.specs.GuestFile.{guest_file}
use Rattle.aia_isolation.specs.Replies.{replies}
use Rattle.aia_uses.proofs.HearingFacts.{move_left_out, wire_left_out, send_left_out, landing_left_out}
use Rattle.aia_uses.proofs.hearing.what_may_be_left_out.Goals as goal

pub returns-clause-said : goal.returns-clause-said
returns-clause-said c = λ h g. c.what_does_not_speak_to_a_guest_may_be_left_out.ensures.said h g

pub returns-clause-guest : goal.returns-clause-guest
returns-clause-guest c = λ h g. ap (λ state. state.file) (c.what_does_not_speak_to_a_guest_may_be_left_out.ensures.guest h g)

pub returns-clause-replies : goal.returns-clause-replies
returns-clause-replies c = λ h g. c.what_does_not_speak_to_a_guest_may_be_left_out.ensures.replies h g

pub returns-clause-begun : goal.returns-clause-begun
returns-clause-begun c = λ h move g.
    ap (λ kept. state_of kept g) (sym (move_left_out h move g)) ∙ c.what_does_not_speak_to_a_guest_may_be_left_out.ensures.guest (Began move ∷ h) g

pub returns-clause-wired : goal.returns-clause-wired
returns-clause-wired c = λ h source level g.
    ap (λ kept. replies kept g) (sym (wire_left_out h source level g))
    ∙ c.what_does_not_speak_to_a_guest_may_be_left_out.ensures.replies (Accepted (lines.Wire source level) ∷ h) g

pub returns-clause-sent : goal.returns-clause-sent
returns-clause-sent c = λ h vm addr value g other.
    ap (λ kept. guest_file kept g) (sym (send_left_out h vm addr value g other))
    ∙ ap (λ state. state.file) (c.what_does_not_speak_to_a_guest_may_be_left_out.ensures.guest (Accepted (lines.Send vm addr value) ∷ h) g)

pub returns-clause-landed : goal.returns-clause-landed
returns-clause-landed c = λ h vm k g other silent.
    ap (λ kept. guest_file kept g) (sym (landing_left_out h vm k g other silent))
    ∙ ap (λ state. state.file) (c.what_does_not_speak_to_a_guest_may_be_left_out.ensures.guest (Landed vm k ∷ h) g)
