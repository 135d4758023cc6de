use Rattle.std.proofs.Common.{◌≡◌, None, refl, sym}
use Rattle.aia_model.specs.declared.answer.Answer.TheVariants.{Narrow}
use Rattle.aia_model.specs.Act.{domain_at}
use Rattle.aia_replay.proofs.MachineLemmas.{core_line, answered_by, load_silent}
use Rattle.aia_replay.proofs.machine.Machine.load.Goals as goal

pub returns-in-None : goal.returns-in-None
returns-in-None c =
    let outside : domain_at c.args.addr ≡ None = sym c.in-None.ensures in
    rw (answered_by Narrow c.load-given.result c.map_or_else.result c.map_or_else.ensures)
    (core_line c.args.self.now _ _ _ (load_silent c.args.addr outside) (c.load-given.ensures.takes outside) refl)
