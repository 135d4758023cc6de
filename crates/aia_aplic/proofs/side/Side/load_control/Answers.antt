use Rattle.std.proofs.Common.{◌<◌, List, length, sym, ap, subst, ◌∙◌, arith}
use Rattle.aia_direct.specs.Idc.{IdcState, control_read}
use Rattle.aia_aplic_values.specs.Controls.{control_at}
use Rattle.aia_aplic_values.specs.Side.{SideState, SideStands}
use Rattle.aia_aplic_values.proofs.SideLemmas.{control_there}
use Rattle.aia_aplic.proofs.side.Side.load_control.Goals as goal

pub returns-then-hart-len : goal.returns-then-hart-len
returns-then-hart-len c = λ past name stands.
    let now : SideStands (record { domain = c.self.inside.domain; controls = c.self.inside.controls.items }) past name =
    subst (λ (a : SideState). SideStands a past name) (sym c.self.view_is) stands in
    let low : c.args.hart < length c.self.inside.controls.items = omega (arith, c.if-hart-len.true, c.len.ensures) in
    c.load_control.ensures ∙ ap (λ (xs : List IdcState). control_read (control_at xs c.args.hart) c.args.reg) c.deref.ensures.value
    ∙ control_there c.args.reg c.args.hart (record { domain = c.self.inside.domain; controls = c.self.inside.controls.items }) past name
    c.requires low now
