use Rattle.std.proofs.Common.{◌<◌, List, length, sym, ap, subst, ◌∙◌, arith}
use Rattle.aia_direct.specs.Idc.{IdcState, signals_hart}
use Rattle.aia_aplic_values.specs.Controls.{control_at}
use Rattle.aia_aplic_values.specs.Side.{SideState, SideStands}
use Rattle.aia_aplic_values.proofs.SideLemmas.{signals_is}
use Rattle.aia_aplic.proofs.side.Side.signal.Goals as goal

pub returns-then-hart-len-clause-signal : goal.returns-then-hart-len-clause-signal
returns-then-hart-len-clause-signal c = λ past name stands there.
    let now : SideStands (record { domain = c.self.inside.domain; controls = c.self.inside.controls.items }) past name =
    subst (λ (a : SideState). SideStands a past name) (sym c.self.view_is) stands in
    let low : c.args.hart < length c.self.inside.controls.items = omega (arith, c.if-hart-len.true, c.len.ensures) in
    c.signal_of.ensures ∙ ap (λ (xs : List IdcState). signals_hart (control_at xs c.args.hart) c.self.inside.domain c.args.hart) c.deref.ensures.value
    ∙ signals_is c.args.hart (record { domain = c.self.inside.domain; controls = c.self.inside.controls.items }) past name low now
