use Rattle.aia_replay.proofs.MachineLemmas.{no_pins, pins_shown}
use Rattle.aia_replay.proofs.machine.Machine.pins.Goals as goal

pub returns-in-Ok : goal.returns-in-Ok
returns-in-Ok c = pins_shown c.args.self.now c.args.hart c.pin.result c.pin-in-Ok.result c.in-Ok.machine c.in-Ok.supervisor c.pin.ensures.signal
    c.pin-in-Ok.ensures.signal c.in-Ok.ensures.value

pub returns-in-Err : goal.returns-in-Err
returns-in-Err c = no_pins c.args.self.now c.args.hart c.in-Err.word c.in-Err.ensures.value
