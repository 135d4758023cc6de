use Rattle.std.proofs.Common.{ap, ◌∙◌, subst, arith}
use Rattle.aia_vcpu.specs.Home.{Home}
use Rattle.aia_vcpu_places.specs.Holds.{Hand}
use Rattle.aia_move_values.specs.Move.{Moving, width}
use Rattle.aia_move_values.specs.Turns.{GivesBack}
use Rattle.aia_move_values.proofs.StepLemmas.{executed_last}
use Rattle.aia_move_values.proofs.PhaseLemmas.{last_step}
use Rattle.aia_move.proofs.moves.Move+D+unit.finish.Goals as goal

pub access-requires-clause-more : goal.access-requires-clause-more
access-requires-clause-more g c = omega (arith, last_step (width c.args.fabric.now) c.args.self.home c.requires.last)

pub returns : goal.returns
returns g c =
    let w = c.args.fabric.now in
    let s = c.args.self in
    let x = c.access.new.self in
    let l = c.self.inside in
    let ends = executed_last w c.access.new.fabric s x c.access.ensures c.requires.last in
    record {
      ends = ends.0;
      gives = subst (λ (h : Hand). GivesBack c.end.result s.home h) (ap (λ (y : Moving). y.hand) c.self.view_is ∙ ends.1)
          (subst (λ (h : Home). GivesBack c.end.result h l.hand) (ap (λ (y : Moving). y.home) c.self.view_is ∙ c.access.ensures.same_home)
          (c.end.ensures (record { steps = l.done; aims = l.aims })));
    }
