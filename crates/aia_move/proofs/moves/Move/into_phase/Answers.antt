use Rattle.std.proofs.Common.{sym, ap, ◌∙◌, subst}
use Rattle.aia_vcpu.specs.Home.{Progress, is_moving}
use Rattle.aia_vcpu.specs.Phases.{after_shared}
use Rattle.aia_move_values.specs.Move.{Moving}
use Rattle.aia_move_values.specs.Turns.{IsIn}
use Rattle.aia_move_values.proofs.PhaseLemmas.{is_after}
use Rattle.aia_move.proofs.moves.Move.into_phase.Goals as goal

pub returns-clause-after : goal.returns-clause-after
returns-clause-after g c words some begun =
    let l = c.self.inside in
    let at : Progress = record { steps = l.done; aims = l.aims } in
    subst (λ x. IsIn g.D.Direction.after words x) (sym c.self.view_is)
    (is_after g.D.Direction.after words c.args.self (ap (λ (x : Moving). is_moving x.home) (sym c.self.view_is))
    (g.met.D.Direction.follows l.direction at ∙ ap (λ (x : Moving). after_shared x.home) c.self.view_is) some begun)
