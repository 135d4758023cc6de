use Rattle.std.proofs.Common.{◌≡◌, slice_get, option_map, get_or, ap, ◌∙◌}
use Rattle.std.proofs.lemmas.Option.{slice_get-get_or, get_or_from_slice_get}
use Rattle.aia_direct.specs.Idc.{IdcState, new_idc, claimed_top, top_shown}
use Rattle.aia_aplic_values.specs.Controls.{control_at}
use Rattle.aia_aplic.proofs.controls.claim.Goals as goal

pub returns-clause-sources : goal.returns-clause-sources
returns-clause-sources c = λ s.
    let same : get_or c.args.controls.now c.args.hart c.index-controls-hart.result ≡ control_at c.args.controls.now c.args.hart =
    get_or_from_slice_get c.args.controls.now c.args.hart (control_at c.args.controls.now c.args.hart) c.index-controls-hart.result
    (slice_get-get_or c.args.controls.now c.args.hart new_idc c.requires) in
    c.claimi.ensures.sources s ∙ ap (λ (x : IdcState). option_map (claimed_top (top_shown x c.args.domain.now c.args.hart) s)
    (slice_get c.args.domain.now.sources s)) same
