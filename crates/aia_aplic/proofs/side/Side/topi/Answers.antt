use Rattle.std.proofs.Common.{◌<◌, List, length, sym, ap, subst, ◌∙◌, arith}
use Rattle.aia_regs.specs.Top.{topi_value}
use Rattle.aia_direct.specs.Idc.{IdcState, top_shown}
use Rattle.aia_aplic_values.specs.Controls.{control_at}
use Rattle.aia_aplic_values.specs.Side.{SideState, SideStands}
use Rattle.aia_aplic_values.proofs.SideLemmas.{topi_there}
use Rattle.aia_aplic.proofs.side.Side.topi.Goals as goal

pub returns-then-hart-len : goal.returns-then-hart-len
returns-then-hart-len c = λ past name stands.
    let now : SideStands (record { domain = c.self.inside.domain; controls = c.self.inside.controls.items }) past name =
    subst (λ (a : SideState). SideStands a past name) (sym c.self.view_is) stands in
    let low : c.args.hart < length c.self.inside.controls.items = omega (arith, c.if-hart-len.true, c.len.ensures) in
    c.topi_of.ensures ∙ ap (λ (xs : List IdcState). topi_value (top_shown (control_at xs c.args.hart) c.self.inside.domain c.args.hart))
    c.deref.ensures.value
    ∙ topi_there c.args.hart (record { domain = c.self.inside.domain; controls = c.self.inside.controls.items }) past name low now
