use Rattle.std.proofs.Common.{◌≡◌, true, None, refl, ap, subst, sym, ◌∙◌}
use Rattle.aia_vcpu.specs.Vms.{vcpu_of}
use Rattle.aia_model.specs.declared.answer.Answer.TheVariants as answers
use Rattle.aia_model.specs.declared.line.Line.TheVariants.{LoadPart}
use Rattle.aia_model.specs.Image.{part_of, is_loadable}
use Rattle.aia_model.specs.StateOf.{state_of}
use Rattle.aia_model.specs.Refusal.{refusal}
use Rattle.aia_model.specs.Script.{history_of}
use Rattle.aia_model.proofs.HistoryLemmas.{script_happens}
use Rattle.aia_uses.specs.declared.told.TheConstants.{TOLD}
use Rattle.aia_uses.specs.Worked.{made}
use Rattle.aia_uses.proofs.ImageFacts.{told_stands, told_n, last_told, save_allowed, last_part, told_greatest, is_parked}
use Rattle.aia_uses.proofs.images.what_one_line_saves.Goals as goal

pub returns-clause-parts : goal.returns-clause-parts
returns-clause-parts c =
    let x = state_of (history_of TOLD.now) (vcpu_of 0 0) in
    subst (λ n. is_loadable n (part_of x 3) ≡ true) told_n
    (c.what_is_saved_may_be_loaded.ensures.parts x 3
    (c.every_virtual_hart_has_a_state.ensures (history_of TOLD.now) (vcpu_of 0 0) (script_happens TOLD.now) told_stands) last_told)

pub returns-clause-answered : goal.returns-clause-answered
returns-clause-answered c = c.what_is_saved_may_be_loaded.ensures.answered (history_of TOLD.now) 0 0 3 save_allowed ∙ ap answers.Part last_part

pub returns-clause-saved : goal.returns-clause-saved
returns-clause-saved c =
    subst (λ part. is_loadable 63 part ≡ true) last_part
    (subst (λ n. is_loadable n (part_of (state_of (history_of TOLD.now) (vcpu_of 0 0)) 3) ≡ true) told_greatest
    (c.what_is_saved_may_be_loaded.ensures.saved (history_of TOLD.now) 0 0 3 (script_happens TOLD.now) save_allowed))

pub returns-clause-accepted : goal.returns-clause-accepted
returns-clause-accepted c =
    subst (λ part. refusal made (LoadPart 0 1 part) ≡ None) last_part
    (c.what_is_saved_may_be_loaded.ensures.accepted (history_of TOLD.now) made 0 0 3 (vcpu_of 0 1) (script_happens TOLD.now) save_allowed refl refl
    is_parked (sym told_greatest))
