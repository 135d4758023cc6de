use Rattle.std.proofs.Common.{◌≡◌, None, refl, sym}
use Rattle.aia_model.specs.Act.{domain_at}
use Rattle.aia_replay.proofs.MachineLemmas.{core_line, store_silent}
use Rattle.aia_replay.proofs.machine.Machine.store.Goals as goal

pub returns-in-None : goal.returns-in-None
returns-in-None c =
    let outside : domain_at c.args.addr ≡ None = sym c.in-None.ensures in
    rw c.okay.ensures (core_line c.args.self.now _ _ _ (store_silent c.args.addr c.args.value outside) (c.store.ensures.takes outside) refl)
