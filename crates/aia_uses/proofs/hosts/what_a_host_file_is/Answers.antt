use Rattle.std.proofs.Common.{◌∷◌, ap}
use Rattle.aia_uses.proofs.ReachedFacts.{rests}
use Rattle.aia_uses.proofs.hosts.what_a_host_file_is.Goals as goal

pub returns-clause-file : goal.returns-clause-file
returns-clause-file c = λ h f. ap (λ host. host.file) (c.a_file_of_the_host_is_what_was_done_at_it.ensures.automaton h f)

pub returns-clause-select : goal.returns-clause-select
returns-clause-select c = λ h f. ap (λ host. host.select) (c.a_file_of_the_host_is_what_was_done_at_it.ensures.automaton h f)

pub returns-clause-two_runs : goal.returns-clause-two_runs
returns-clause-two_runs c = λ h k f x same.
    let is = c.a_file_of_the_host_is_what_was_done_at_it.ensures.two_runs h k f x same in
    (ap (λ host. host.file) is, ap (λ host. host.select) is)

pub returns-clause-undone : goal.returns-clause-undone
returns-clause-undone c = λ h event f e.
    ap (λ host. host.file) (c.a_file_of_the_host_is_what_was_done_at_it.ensures.two_runs (event ∷ h) h f f (rests h event f e))
