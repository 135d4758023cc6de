use Rattle.aia_rehearsal.proofs.StepStands.{rehearsed}
use Rattle.aia_rehearsal.proofs.SameMachine.{step_same, step_of}
use Rattle.aia_rehearsal.proofs.rehearsal.Rehearsal.step.Goals as goal

pub returns-clause-stands : goal.returns-clause-stands
returns-clause-stands c = rehearsed c.args.fabric.now c.make.new.fabric c.args.self.now c.make.new.self c.args.step c.recall.ensures.whole
    c.requires.word c.make.ensures.makes c.make.ensures.after

pub returns-clause-machine : goal.returns-clause-machine
returns-clause-machine c = step_same c.args.step c.args.fabric.now c.make.new.fabric c.args.self.now c.make.ensures.makes

pub returns-clause-of : goal.returns-clause-of
returns-clause-of c = step_of c.args.step c.args.fabric.now c.make.new.fabric c.args.self.now c.make.new.self c.requires.of c.make.ensures.makes
    c.make.ensures.after
