use Rattle.std.proofs.Common.{◌≡◌, true, sym, subst}
use Rattle.aia_aplic_values.specs.Aplic.{AplicState, AplicStands}
use Rattle.aia_aplic_values.specs.Passing.{is_passable_in, AimsIn}
use Rattle.aia_aplic_values.proofs.AimSteps.{aplic-aimed}
use Rattle.aia_aplic_values.proofs.PassingLemmas.{aimed-aims}
use Rattle.aia_aplic.proofs.aplic.Aplic.put_target.Goals as goal

pub returns-clause-stands : goal.returns-clause-stands
returns-clause-stands c = λ past stands.
    let now : AplicStands (record { root = c.self.inside.root; child = c.self.inside.child; addresses = c.self.inside.addresses }) past =
    subst (λ (a : AplicState). AplicStands a past) (sym c.self.view_is) stands in
    aplic-aimed c.args.s c.args.target (record { root = c.self.inside.root; child = c.self.inside.child; addresses = c.self.inside.addresses })
    c.aim.new.self past (c.aim.ensures.stands past) now

pub returns-clause-targets : goal.returns-clause-targets
returns-clause-targets c = λ passable.
    subst (λ (a : AplicState). AimsIn a c.args.s c.args.target
    (record { root = c.self.inside.root; child = c.aim.new.self; addresses = c.self.inside.addresses })) c.self.view_is
    (aimed-aims c.args.s c.args.target (record { root = c.self.inside.root; child = c.self.inside.child; addresses = c.self.inside.addresses })
    c.aim.new.self c.aim.ensures.sources c.aim.ensures.domain
    (subst (λ (a : AplicState). is_passable_in a c.args.s ≡ true) (sym c.self.view_is) passable))
