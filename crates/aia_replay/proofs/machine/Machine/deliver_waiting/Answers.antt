use Rattle.std.proofs.Common.{refl}
use Rattle.aia_replay.proofs.DeliveryLemmas.{begin, one_more, may_hear, all_delivered}
use Rattle.aia_replay.proofs.machine.Machine.deliver_waiting.Goals as goal

pub loop-msi-init : goal.loop-msi-init
loop-msi-init c = begin c.args.self.now

pub deliver-requires : goal.deliver-requires
deliver-requires c = may_hear c.args.self.now c.loop-msi.self _ c.in-Some.msi c.loop-msi.invariant c.requires c.in-Some.ensures.next

pub loop-msi-preserved : goal.loop-msi-preserved
loop-msi-preserved c = one_more c.args.self.now c.loop-msi.self _ c.in-Some.msi c.loop-msi.invariant c.in-Some.ensures.next c.deliver.ensures

pub returns : goal.returns
returns c = all_delivered c.args.self.now c.loop-msi.self _ c.loop-msi.invariant c.in_default.ensures.next refl
