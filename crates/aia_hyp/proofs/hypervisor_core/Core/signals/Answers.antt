use Rattle.std.proofs.Common.{◌<◌, ap, arith, ◌∙◌}
use Rattle.aia_file.specs.InterruptFile.{signals}
use Rattle.aia_file.specs.FileState.{FileState, shown}
use Rattle.aia_hyp_values.proofs.EventLemmas.{signals_there}
use Rattle.aia_hyp.proofs.hypervisor_core.Core.signals.Goals as goal

pub returns-clause-value : goal.returns-clause-value
returns-clause-value c = rw (← c.self.view_is) (λ h stands.
    let inside : c.args.hart < c.self.inside.fabric.imsic.harts = omega (arith, c.harts.ensures.value, c.from.ensures, c.if-from-hart.false) in
    signals_there _ h c.args.hart c.signal.result c.signal-2.result inside
    (c.signal.ensures ∙ ap (λ (f : FileState). signals (shown f)) c.file.ensures)
    (c.signal-2.ensures ∙ ap (λ (f : FileState). signals (shown f)) c.file-2.ensures) stands)
