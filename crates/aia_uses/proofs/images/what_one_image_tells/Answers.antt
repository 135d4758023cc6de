use Rattle.std.proofs.Common.{refl, [], ◌∷◌}
use Rattle.aia_regs.specs.declared.access.Csr.TheVariants.{Topei}
use Rattle.aia_vcpu.specs.Vms.{vcpu_of}
use Rattle.aia_model.specs.StateOf.{state_of}
use Rattle.aia_model.specs.Script.{history_of}
use Rattle.aia_model.proofs.HistoryLemmas.{script_happens}
use Rattle.aia_uses.specs.declared.told.TheConstants.{TOLD}
use Rattle.aia_uses.specs.Worked.{asked, parked_asked}
use Rattle.aia_uses.proofs.ImageFacts.{told_stands, has_four, told_n, same_state, last_there, gives_one}
use Rattle.aia_uses.proofs.images.what_one_image_tells.Goals as goal

pub returns-clause-tell : goal.returns-clause-tell
returns-clause-tell c =
    let x = state_of (history_of TOLD.now) (vcpu_of 0 0) in
    let is_state = c.every_virtual_hart_has_a_state.ensures (history_of TOLD.now) (vcpu_of 0 0) (script_happens TOLD.now) told_stands in
    c.images_tell_states.ensures.tell x x is_state is_state (λ k low. refl)

pub returns-clause-told : goal.returns-clause-told
returns-clause-told c = c.images_tell_states.ensures.told (state_of asked (vcpu_of 0 0)) (state_of parked_asked (vcpu_of 0 0)) same_state 3 last_there

pub returns-clause-read : goal.returns-clause-read
returns-clause-read c = c.images_tell_states.ensures.read asked parked_asked (vcpu_of 0 0) (vcpu_of 0 0) Topei same_state

pub returns-clause-all : goal.returns-clause-all
returns-clause-all c =
    let x = state_of (history_of TOLD.now) (vcpu_of 0 0) in
    let is_state = c.every_virtual_hart_has_a_state.ensures (history_of TOLD.now) (vcpu_of 0 0) (script_happens TOLD.now) told_stands in
    gives_one (c.all_parts_give_the_state.ensures x (3 ∷ 2 ∷ 1 ∷ 0 ∷ []) is_state (has_four x told_n))
