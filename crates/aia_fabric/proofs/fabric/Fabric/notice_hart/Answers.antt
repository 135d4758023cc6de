use Rattle.std.proofs.Common.{arith}
use Rattle.aia_fabric.proofs.fabric.Fabric.notice_hart.Goals as goal

pub returns-clause-there : goal.returns-clause-there
returns-clause-there c =
    let low = rw (← c.self.view_is) at c.requires in
    let value = c.notice_hart.ensures in
    let vm = c.self.invariant.vms c.args.vm low in
    rw (← c.self.view_is) (omega (arith, value, vm.notice_hart))
