use Rattle.aia_replay.proofs.MachineLemmas.{entry_read}
use Rattle.aia_replay.proofs.machine.Machine.entry.Goals as goal

pub returns : goal.returns
returns c = entry_read c.args.self.now c.args.w0 c.args.w1 c.decode.result c.decode.ensures
