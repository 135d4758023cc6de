use Rattle.std.proofs.Common.{ap, ◌∙◌}
use Rattle.std.proofs.lemmas.Bool.{cond-true, cond-false}
use Rattle.aia_regs.specs.BitUpdate.{settle}
use Rattle.aia_model.specs.FileOf.{MachineFile, SupervisorFile, file_of}
use Rattle.aia_model.specs.Passes.{nth_pass}
use Rattle.aia_model.specs.FileAfter.{file_after}
use Rattle.aia_model.specs.GuestFile.{guest_file, guest_select}
use Rattle.aia_model.proofs.MoveLemmas.{is_itself}
use Rattle.aia_uses.proofs.ForwardFacts.{nothing_said}
use Rattle.aia_uses.proofs.forwards.what_a_forward_is.Goals as goal

pub returns-clause-own : goal.returns-clause-own
returns-clause-own c = λ h p msi good is forward.
    let g = (nth_pass h p).to in
    c.a_forward_asks_at_its_guest_alone.ensures.guests h p msi g good is forward
    ∙ ap (λ deed. file_after (guest_select h g) deed (guest_file h g)) (cond-true _ _ _ (is_itself g))

pub returns-clause-others : goal.returns-clause-others
returns-clause-others c = λ h p msi g good is forward other.
    c.a_forward_asks_at_its_guest_alone.ensures.guests h p msi g good is forward
    ∙ ap (λ deed. file_after (guest_select h g) deed (guest_file h g)) (cond-false _ _ _ other)

pub returns-clause-asks : goal.returns-clause-asks
returns-clause-asks c = λ h p msi good is forward. c.a_forward_asks_at_its_guest_alone.ensures.asks h p msi good is forward

pub returns-clause-machine : goal.returns-clause-machine
returns-clause-machine c = λ h p msi hart i good is forward there.
    c.a_forward_asks_at_its_guest_alone.ensures.hosts h p msi (MachineFile hart) i good is forward there
    ∙ ap (λ said. settle said ((file_of h (MachineFile hart)).pending i)) (nothing_said h p msi hart i)

pub returns-clause-supervisor : goal.returns-clause-supervisor
returns-clause-supervisor c = λ h p msi hart i good is forward there.
    c.a_forward_asks_at_its_guest_alone.ensures.hosts h p msi (SupervisorFile hart) i good is forward there
