use Rattle.aia_vcpu.specs.Vms.{vcpu_of}
use Rattle.std.specs.Prelude.{◌≡◌}
use Rattle.aia_hyp_values.specs.Moves.{left_in}
use Rattle.aia_hyp_values.proofs.MoveWhole.{SoFar}
use Rattle.aia_hyp.proofs.hypervisor_core.Core.whole.Given as goal

abbrev pub invariant-loop-found : goal.invariant-loop-found
invariant-loop-found g l = SoFar g.T.Targets.aimed l.fn.self l.self l.fn.targets l.targets l.found l.fn.want
    × (l.self.world.imsic.harts ≡ (g.T.Targets.map l.targets).harts)

abbrev pub decreases-loop-found : goal.decreases-loop-found
decreases-loop-found g l = left_in l.self (vcpu_of l.found.vm l.found.vcpu)
