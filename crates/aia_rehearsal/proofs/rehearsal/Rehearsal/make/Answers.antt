use Rattle.std.proofs.Common.{sym, ◌∙◌, subst}
use Rattle.aia_vcpu_places.specs.Holds.{Hand}
use Rattle.aia_move_values.specs.Move.{width}
use Rattle.aia_move_values.specs.Accesses.{WordFits}
use Rattle.aia_rehearsal.proofs.StepMade.{word_fits, step_made}
use Rattle.aia_rehearsal.proofs.rehearsal.Rehearsal.make.Goals as goal

pub make-requires-clause-word : goal.make-requires-clause-word
make-requires-clause-word c =
    let w = c.args.fabric.now in
    let access = c.in-Some.access in
    subst (λ (h : Hand). WordFits access (width w) h.word) (sym c.hand_for-hand.ensures)
    (word_fits (width w) c.args.self.now c.args.step access c.requires.word (sym c.access_made.ensures ∙ c.in-Some.is))

pub returns-in-Some-clause-makes : goal.returns-in-Some-clause-makes
returns-in-Some-clause-makes c = (step_made c.args.fabric.now c.make.new.fabric _ c.args.self.now c.self.view_is c.self.invariant c.args.step
    c.access_made.result c.in-Some.access c.access_made.ensures c.in-Some.is c.hand_for-hand.result c.make.new.self c.hand_for-hand.ensures _ _
    c.file-old.ensures c.file-new.ensures c.make.ensures).0

pub returns-in-Some-clause-after : goal.returns-in-Some-clause-after
returns-in-Some-clause-after c = c.carry.ensures
    ∙ (step_made c.args.fabric.now c.make.new.fabric _ c.args.self.now c.self.view_is c.self.invariant c.args.step c.access_made.result
    c.in-Some.access c.access_made.ensures c.in-Some.is c.hand_for-hand.result c.make.new.self c.hand_for-hand.ensures _ _ c.file-old.ensures
    c.file-new.ensures c.make.ensures).1
