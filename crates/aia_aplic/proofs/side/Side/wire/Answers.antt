use Rattle.std.proofs.Common.{sym, subst}
use Rattle.aia_aplic_values.specs.Side.{SideState, SideStands}
use Rattle.aia_aplic_values.proofs.SideLemmas.{side-driven}
use Rattle.aia_aplic.proofs.side.Side.wire.Goals as goal

pub returns : goal.returns
returns c = λ past name stands.
    let now : SideStands (record { domain = c.self.inside.domain; controls = c.self.inside.controls.items }) past name =
    subst (λ (a : SideState). SideStands a past name) (sym c.self.view_is) stands in
    side-driven c.args.s c.args.level (record { domain = c.self.inside.domain; controls = c.self.inside.controls.items }) _ past name
    c.wire.ensures.sources c.wire.ensures.domain now
