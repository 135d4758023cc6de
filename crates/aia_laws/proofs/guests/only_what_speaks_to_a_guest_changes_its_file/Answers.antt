use Rattle.aia_laws.proofs.AfterLemmas.{quiet_same, other_is_quiet, none_forwarded, others_send_none}
use Rattle.aia_laws.proofs.guests.only_what_speaks_to_a_guest_changes_its_file.Goals as goal

pub returns-clause-silent : goal.returns-clause-silent
returns-clause-silent c = λ h line g stands quiet still. quiet_same h line g still stands quiet

pub returns-clause-other_vms : goal.returns-clause-other_vms
returns-clause-other_vms c = λ h line g stands other. quiet_same h line g (none_forwarded h line g (others_send_none line g other)) stands
    (other_is_quiet h line g other)
