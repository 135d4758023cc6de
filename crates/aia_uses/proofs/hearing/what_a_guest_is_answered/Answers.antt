use Rattle.std.proofs.Common.{ap, sym, ◌∙◌, ◌∷◌}
use Rattle.aia_model.specs.declared.answer.Answer.TheVariants.{Wide}
use Rattle.aia_isolation.specs.Said.{said}
use Rattle.aia_isolation.specs.Guest.{guest_by, shown}
use Rattle.aia_isolation.specs.Replies.{replies_by}
use Rattle.aia_uses.proofs.HearingFacts.{one_more}
use Rattle.aia_uses.proofs.hearing.what_a_guest_is_answered.Goals as goal

pub returns-clause-automaton : goal.returns-clause-automaton
returns-clause-automaton c = λ h g. c.a_guest_is_answered_by_what_was_said_to_it.ensures.automaton h g

pub returns-clause-read : goal.returns-clause-read
returns-clause-read c = λ h k g x csr e.
    c.a_guest_is_answered_by_what_was_said_to_it.ensures.automaton h g
    ∙ ap replies_by e ∙ one_more csr (said k x)
    ∙ ap (λ earlier. Wide (shown (guest_by (said k x)) csr) ∷ earlier) (sym (c.a_guest_is_answered_by_what_was_said_to_it.ensures.automaton k x))

pub returns-clause-two_runs : goal.returns-clause-two_runs
returns-clause-two_runs c = λ h k g x same. c.a_guest_is_answered_by_what_was_said_to_it.ensures.two_runs h k g x same

pub returns-clause-next : goal.returns-clause-next
returns-clause-next c = λ h k g x csr op same machine there served other_machine other_there other_served.
    c.a_guest_is_answered_by_what_was_said_to_it.ensures.next h k g x csr op same (record { machine = machine; there = there; served = served })
    (record { machine = other_machine; there = other_there; served = other_served })
