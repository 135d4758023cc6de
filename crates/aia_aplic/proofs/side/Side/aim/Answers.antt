use Rattle.std.proofs.Common.{sym, subst}
use Rattle.aia_model.specs.declared.domain_name.DomainName.TheVariants.{Child}
use Rattle.aia_aplic_values.specs.Side.{SideState, SideStands}
use Rattle.aia_aplic_values.proofs.AimSteps.{child-aimed}
use Rattle.aia_aplic.proofs.side.Side.aim.Goals as goal

pub returns-clause-stands : goal.returns-clause-stands
returns-clause-stands c = λ past stands.
    let now : SideStands (record { domain = c.self.inside.domain; controls = c.self.inside.controls.items }) past Child =
    subst (λ (a : SideState). SideStands a past Child) (sym c.self.view_is) stands in
    child-aimed c.args.s c.args.target (record { domain = c.self.inside.domain; controls = c.self.inside.controls.items }) _ past
    c.aim.ensures.sources c.aim.ensures.domain now
