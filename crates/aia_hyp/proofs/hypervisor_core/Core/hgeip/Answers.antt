use Rattle.std.proofs.Common.{◌<◌, ◌≤◌, arith}
use Rattle.aia_hyp_values.proofs.SignalLemmas.{hgeip_taken, no_hart_for_it}
use Rattle.aia_hyp.proofs.hypervisor_core.Core.hgeip.Goals as goal

pub returns-then-from-hart : goal.returns-then-from-hart
returns-then-from-hart c =
    let past : c.self.inside.fabric.imsic.harts ≤ c.args.hart = omega (arith, c.harts.ensures.value, c.from.ensures, c.if-from-hart.true) in
    rw (← c.self.view_is) (no_hart_for_it _ c.args.hart past)

pub returns : goal.returns
returns c =
    let inside : c.args.hart < c.self.inside.fabric.imsic.harts = omega (arith, c.harts.ensures.value, c.from.ensures, c.if-from-hart.false) in
    rw (← c.self.view_is) (hgeip_taken _ c.args.hart c.hgeip.result c.recall.ensures.whole inside c.hgeip.ensures)
