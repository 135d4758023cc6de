use Rattle.std.proofs.Common.{refl}
use Rattle.aia_replay.proofs.MachineLemmas.{core_line, begin_silent}
use Rattle.aia_replay.proofs.machine.Machine.begin_move.Goals as goal

pub returns : goal.returns
returns c = rw c.okay.ensures (core_line c.args.self.now _ _ _ (begin_silent c.args.vm c.args.vcpu c.args.want) c.begin.ensures refl)
