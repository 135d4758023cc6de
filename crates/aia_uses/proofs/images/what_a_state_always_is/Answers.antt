use Rattle.aia_vcpu.specs.Vms.{vcpu_of}
use Rattle.aia_model.specs.Script.{history_of}
use Rattle.aia_model.proofs.HistoryLemmas.{script_happens}
use Rattle.aia_uses.specs.declared.told.TheConstants.{TOLD}
use Rattle.aia_uses.proofs.ImageFacts.{told_stands}
use Rattle.aia_uses.proofs.images.what_a_state_always_is.Goals as goal

pub returns-clause-file : goal.returns-clause-file
returns-clause-file c = λ h g good stands.
    let state = c.every_virtual_hart_has_a_state.ensures h g good stands in
    (state.greatest, state.threshold, state.delivery, state.select)

pub returns-clause-sets : goal.returns-clause-sets
returns-clause-sets c = λ h g i good stands.
    let state = c.every_virtual_hart_has_a_state.ensures h g good stands in
    (state.pending i, state.enabled i)

pub returns-clause-majors : goal.returns-clause-majors
returns-clause-majors c = λ h g j good stands.
    let state = c.every_virtual_hart_has_a_state.ensures h g good stands in
    (state.injected_majors j, state.enabled_majors j, state.hviprio1, state.hvictl)

pub returns-clause-one : goal.returns-clause-one
returns-clause-one c = (c.every_virtual_hart_has_a_state.ensures (history_of TOLD.now) (vcpu_of 0 0) (script_happens TOLD.now) told_stands).greatest
