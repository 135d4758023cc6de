use Rattle.std.proofs.Common.{ap, sym, ◌∙◌}
use Rattle.aia_isolation.specs.Said.{without_reads}
use Rattle.aia_isolation.specs.Said.{said}
use Rattle.aia_isolation.specs.Guest.{guest_by, with_pending}
use Rattle.aia_uses.proofs.HearingFacts.{by_asked}
use Rattle.aia_uses.proofs.hearing.what_a_guest_is.Goals as goal

pub returns-clause-file : goal.returns-clause-file
returns-clause-file c = λ h g. ap (λ state. state.file) (c.a_guest_is_what_was_said_to_it.ensures.automaton h g)

pub returns-clause-select : goal.returns-clause-select
returns-clause-select c = λ h g. ap (λ state. state.select) (c.a_guest_is_what_was_said_to_it.ensures.automaton h g)

pub returns-clause-majors : goal.returns-clause-majors
returns-clause-majors c = λ h g. ap (λ state. state.majors) (c.a_guest_is_what_was_said_to_it.ensures.automaton h g)

pub returns-clause-asked : goal.returns-clause-asked
returns-clause-asked c = λ h k g x i j e.
    ap (λ state. state.file.pending j) (c.a_guest_is_what_was_said_to_it.ensures.automaton h g)
    ∙ ap (λ words. (guest_by words).file.pending j) e
    ∙ ap (λ file. file.pending j) (by_asked i (said k x))
    ∙ ap (λ state. (with_pending i state.file).pending j) (sym (c.a_guest_is_what_was_said_to_it.ensures.automaton k x))

pub returns-clause-two_runs : goal.returns-clause-two_runs
returns-clause-two_runs c = λ h k g x same.
    let is = c.a_guest_is_what_was_said_to_it.ensures.two_runs h k g x same in
    (ap (λ state. state.file) is, ap (λ state. state.select) is, ap (λ state. state.majors) is)

pub returns-clause-reads : goal.returns-clause-reads
returns-clause-reads c = λ h k g x csr e. ap (λ state. state.file) (c.a_guest_is_what_was_said_to_it.ensures.two_runs h k g x (ap without_reads e))
