use Rattle.std.proofs.Common.{refl}
use Rattle.aia_replay.proofs.DeliveryLemmas.{begin, all_delivered}
use Rattle.aia_replay.proofs.machine.Machine.deliver.Goals as goal

pub returns-else-has_msi : goal.returns-else-has_msi
returns-else-has_msi c = all_delivered c.args.self.now c.args.self.now c.args.self.now (begin c.args.self.now)
    (λ past stands. (c.has_msi.ensures.none c.if-has_msi.false past stands, stands)) refl
