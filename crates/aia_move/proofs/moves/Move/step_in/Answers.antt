use Rattle.std.proofs.Common.{ap, arith}
use Rattle.aia_vcpu.specs.Home.{one_more}
use Rattle.aia_move_values.specs.Move.{Moving}
use Rattle.aia_move_values.proofs.StepLemmas.{executed_on}
use Rattle.aia_move.specs.PlanViews.{phase_at}
use Rattle.aia_move_values.proofs.PhaseLemmas.{in_phase}
use Rattle.aia_move.proofs.moves.Move.step_in.Goals as goal

pub stays-stays-requires : goal.stays-stays-requires
stays-stays-requires g c = omega (arith, c.requires.more)

pub returns : goal.returns
returns g c =
    let w = c.args.fabric.now in
    let s = c.args.self.now in
    let x = c.access.new.self in
    in_phase w c.access.new.fabric (phase_at c.args.phase) s _ c.stays-stays.result c.requires.access c.requires.phase
    (executed_on w c.access.new.fabric s x _ c.requires.fits (omega (arith, c.recall.ensures.all, c.recall.ensures.some)) c.access.ensures
    c.requires.more (ap (λ (y : Moving). record y { home = one_more y.home }) c.self.view_is)) c.stays-stays.ensures
