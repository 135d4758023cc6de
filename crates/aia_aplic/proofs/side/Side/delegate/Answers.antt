use Rattle.std.proofs.Common.{refl, sym, subst, ◌∙◌}
use Rattle.aia_regs.specs.declared.domain_registers.DomainReg.TheVariants.{SourceCfg}
use Rattle.aia_model.specs.declared.domain_name.DomainName.TheVariants.{Child}
use Rattle.aia_aplic_values.specs.Side.{SideState, SideStands}
use Rattle.aia_aplic_values.proofs.SideLemmas.{child-side_written}
use Rattle.aia_aplic.proofs.side.Side.delegate.Goals as goal

pub returns-then-given : goal.returns-then-given
returns-then-given c = λ past v gives stands.
    let now : SideStands (record { domain = c.self.inside.domain; controls = c.self.inside.controls.items }) past Child =
    subst (λ (a : SideState). SideStands a past Child) (sym c.self.view_is) stands in
    child-side_written (SourceCfg c.args.s) c.args.s v _ (record { domain = c.self.inside.domain; controls = c.self.inside.controls.items }) _
    past refl (sym c.if-given.true ∙ gives) c.grant.ensures.sources c.grant.ensures.domain now

pub returns-else-given : goal.returns-else-given
returns-else-given c = λ past v gives stands.
    let now : SideStands (record { domain = c.self.inside.domain; controls = c.self.inside.controls.items }) past Child =
    subst (λ (a : SideState). SideStands a past Child) (sym c.self.view_is) stands in
    child-side_written (SourceCfg c.args.s) c.args.s v _ (record { domain = c.self.inside.domain; controls = c.self.inside.controls.items }) _
    past refl (sym c.if-given.false ∙ gives) c.withdraw.ensures.sources c.withdraw.ensures.domain now
