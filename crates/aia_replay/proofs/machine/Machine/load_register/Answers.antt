use Rattle.std.proofs.Common.{refl}
use Rattle.aia_replay.proofs.MachineLemmas.{load_misaligned, register_loaded}
use Rattle.aia_replay.proofs.machine.Machine.load_register.Goals as goal

pub returns-then-addr-ne0 : goal.returns-then-addr-ne0
returns-then-addr-ne0 c = load_misaligned c.args.self.now c.args.addr c.if-addr-ne0.true

pub returns : goal.returns
returns c = register_loaded c.args.self.now _ c.args.addr c.args.name c.load.result c.if-addr-ne0.false c.requires refl c.load.ensures.reads
    c.load.ensures.stands
