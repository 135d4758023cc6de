use Rattle.std.proofs.Common.{refl}
use Rattle.aia_replay.proofs.MachineLemmas.{core_line, access_silent}
use Rattle.aia_replay.proofs.machine.Machine.access.Goals as goal

pub returns : goal.returns
returns c = rw c.wide.ensures (core_line c.args.self.now _ _ _ (access_silent c.args.level c.requires.host c.args.hart c.args.csr c.args.op)
    c.host.ensures refl)
