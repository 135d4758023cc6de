use Rattle.std.proofs.Common.{◌≡◌, false, None, Option, sym, ap, ◌∙◌, arith}
use Rattle.aia_regs.specs.Top.{Pair}
use Rattle.aia_direct.specs.Idc.{IdcState, top_shown, control_claimed}
use Rattle.aia_direct.proofs.TopLemmas.{none_on_top, none_claimed}
use Rattle.aia_direct.proofs.idc.claimi.Goals as goal

pub returns-else-top-ne0-clause-idc : goal.returns-else-top-ne0-clause-idc
returns-else-top-ne0-clause-idc c =
    let none : top_shown c.args.idc.now c.args.domain.now c.args.hart ≡ None =
    none_on_top c.args.idc.now c.args.domain.now c.args.hart c.top-top.result c.top-top.ensures.value c.top-top.ensures.small
    (omega (arith, c.if-top-ne0.false)) in
    ap (λ (x : IdcState). record x { iforce = false }) c.idc.view_is
    ∙ sym (ap (λ msi. control_claimed msi (top_shown c.args.idc.now c.args.domain.now c.args.hart) c.args.idc.now)
    (sym c.delivers_by_msi.ensures ∙ c.if-delivers_by_msi.false) ∙ ap (λ (o : Option Pair). control_claimed false o c.args.idc.now) none)

pub returns-else-top-ne0-clause-sources : goal.returns-else-top-ne0-clause-sources
returns-else-top-ne0-clause-sources c =
    let none : top_shown c.args.idc.now c.args.domain.now c.args.hart ≡ None =
    none_on_top c.args.idc.now c.args.domain.now c.args.hart c.top-top.result c.top-top.ensures.value c.top-top.ensures.small
    (omega (arith, c.if-top-ne0.false)) in
    none_claimed (top_shown c.args.idc.now c.args.domain.now c.args.hart) c.args.domain.now.sources none
