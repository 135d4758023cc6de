use Rattle.std.proofs.Common.{refl}
use Rattle.aia_aplic_values.proofs.FirstLemmas.{none_is_first}
use Rattle.aia_replay.proofs.DeliveryLemmas.{begin, all_delivered}
use Rattle.aia_replay.proofs.machine.Machine.deliver_after.Goals as goal

pub returns-else-may_send : goal.returns-else-may_send
returns-else-may_send c = all_delivered c.args.self.now c.args.self.now c.args.self.now (begin c.args.self.now)
    (λ past stands. (none_is_first c.args.self.now.wires.aplic past (c.requires.none (c.may_send.ensures c.if-may_send.false)) stands, stands)) refl
