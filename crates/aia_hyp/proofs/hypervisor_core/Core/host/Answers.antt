use Rattle.std.proofs.Common.{◌≤◌, subst, arith}
use Rattle.aia_hyp_values.specs.Core.{CoreState}
use Rattle.aia_hyp_values.proofs.AccessLemmas.{no_hart}
use Rattle.aia_hyp.proofs.hypervisor_core.Core.host.Goals as goal

pub returns-then-hart-from : goal.returns-then-hart-from
returns-then-hart-from c =
    let past : c.self.inside.fabric.imsic.harts ≤ c.args.hart = omega (arith, c.harts.ensures.value, c.from.ensures, c.if-hart-from.true) in
    no_hart c.args.self.now c.args.level c.requires.host c.args.hart c.args.csr c.args.op
    (subst (λ (y : CoreState). y.world.imsic.harts ≤ c.args.hart) c.self.view_is past)
