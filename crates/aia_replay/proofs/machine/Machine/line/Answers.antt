use Rattle.aia_replay.proofs.DeliveryLemmas.{served, can_deliver_some, none_after}
use Rattle.aia_replay.proofs.machine.Machine.line.Goals as goal

pub deliver_after-requires-clause-can : goal.deliver_after-requires-clause-can
deliver_after-requires-clause-can c =
    can_deliver_some c.args.self.now c.serve-answer.new.self c.args.line.now c.serve-answer.result c.requires.stands c.serve-answer.ensures

pub deliver_after-requires-clause-none : goal.deliver_after-requires-clause-none
deliver_after-requires-clause-none c = none_after c.args.self.now c.serve-answer.new.self c.args.line.now c.serve-answer.result c.requires.stands
    c.serve-answer.ensures

pub returns : goal.returns
returns c = served c.args.self.now c.serve-answer.new.self c.deliver_after.new.self c.args.line.now c.serve-answer.result c.serve-answer.ensures
    c.deliver_after.ensures
