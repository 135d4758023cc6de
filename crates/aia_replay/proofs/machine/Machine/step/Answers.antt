use Rattle.std.proofs.Common.{Bool, subst}
use Rattle.aia_model.specs.declared.line.Line.TheVariants.{Step}
use Rattle.aia_hyp_values.specs.Moves.{step_answer}
use Rattle.aia_replay.specs.Stands.{MachineTakes}
use Rattle.aia_replay.proofs.AimLemmas.{step_taken_by, same_harts_there}
use Rattle.aia_replay.proofs.machine.Machine.step.Goals as goal

pub step-requires : goal.step-requires
step-requires c = same_harts_there c.args.self.now c.requires

pub returns-in-Ok-true : goal.returns-in-Ok-true
returns-in-Ok-true c =
    let taken = step_taken_by c.args.self.now (record { core = c.step.new.self; wires = c.step.new.targets }) c.args.vm c.args.vcpu
    (step_answer c.in-Ok-true.field-0) c.in-Ok-true.ensures.takes c.in-Ok-true.ensures.aims in
    subst (λ (b : Bool). MachineTakes c.args.self.now (record { core = c.step.new.self; wires = c.step.new.targets })
    (Step c.args.vm c.args.vcpu) (step_answer b)) c.in-Ok-true.field-0-test taken

pub returns-in-Ok-false : goal.returns-in-Ok-false
returns-in-Ok-false c =
    let taken = step_taken_by c.args.self.now (record { core = c.step.new.self; wires = c.step.new.targets }) c.args.vm c.args.vcpu
    (step_answer c.in-Ok-false.field-0) c.in-Ok-false.ensures.takes c.in-Ok-false.ensures.aims in
    subst (λ (b : Bool). MachineTakes c.args.self.now (record { core = c.step.new.self; wires = c.step.new.targets })
    (Step c.args.vm c.args.vcpu) (step_answer b)) c.in-Ok-false.field-0-test taken

pub returns-in-Err : goal.returns-in-Err
returns-in-Err c = step_taken_by c.args.self.now _ c.args.vm c.args.vcpu _ c.in-Err.ensures.takes c.in-Err.ensures.aims
