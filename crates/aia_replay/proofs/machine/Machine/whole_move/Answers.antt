use Rattle.aia_replay.proofs.AimLemmas.{whole_taken_by, same_harts_there}
use Rattle.aia_replay.proofs.machine.Machine.whole_move.Goals as goal

pub whole-requires : goal.whole-requires
whole-requires c = same_harts_there c.args.self.now c.requires

pub returns : goal.returns
returns c = rw c.okay.ensures (whole_taken_by c.args.self.now _ c.args.vm c.args.vcpu c.args.want _ c.whole.ensures.takes c.whole.ensures.aims)
