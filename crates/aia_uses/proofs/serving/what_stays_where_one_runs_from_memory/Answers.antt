use Rattle.std.proofs.Common.{ap, ◌∙◌}
use Rattle.aia_vcpu.specs.Vms.{vcpu_of}
use Rattle.aia_uses.specs.Worked.{parked_asked, entered}
use Rattle.aia_uses.proofs.Facts.{asked_when_parked, asked_when_entered}
use Rattle.aia_uses.proofs.serving.what_stays_where_one_runs_from_memory.Goals as goal

pub returns-clause-enters : goal.returns-clause-enters
returns-clause-enters c = λ h x g.
    let same = c.running_from_memory_changes_no_guest.ensures.enters h x.vm x.vcpu g in
    (same.0.file, same.0.select, same.1)

pub returns-clause-exits : goal.returns-clause-exits
returns-clause-exits c = λ h x g.
    let same = c.running_from_memory_changes_no_guest.ensures.exits h x.vm x.vcpu g in
    (same.0.file, same.0.select, same.1)

pub returns-clause-entered : goal.returns-clause-entered
returns-clause-entered c = ap (λ file. file.pending 1) (c.running_from_memory_changes_no_guest.ensures.enters parked_asked 0 0 (vcpu_of 0 0)).0.file
    ∙ asked_when_parked

pub returns-clause-exited : goal.returns-clause-exited
returns-clause-exited c = ap (λ file. file.pending 1) (c.running_from_memory_changes_no_guest.ensures.exits entered 0 0 (vcpu_of 0 0)).0.file
    ∙ asked_when_entered
