use Rattle.aia_aplic_values.proofs.SideLemmas.{side-written}
use Rattle.aia_aplic.proofs.side.Side.store.Goals as goal

pub returns : goal.returns
returns c = λ past name stands. side-written c.args.reg c.args.value c.args.self.now c.write.new.self.domain c.write.new.self.controls past name
    c.write.ensures.sources c.write.ensures.domain c.write.ensures.controls stands
