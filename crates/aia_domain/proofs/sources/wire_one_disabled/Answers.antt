use Rattle.aia_domain.specs.InterruptSource.{wired}
use Rattle.aia_domain.proofs.WaitingLemmas.{keeps_same, wire_same}
use Rattle.aia_domain.proofs.sources.wire_one_disabled.Goals as goal

pub returns-clause-keeps : goal.returns-clause-keeps
returns-clause-keeps c =
    keeps_same c.args.msi c.args.sources.now c.change_one.new.sources c.args.waiting.now c.args.s (wired c.args.msi c.args.level) c.change_one.ensures
    (wire_same c.args.msi c.args.level c.args.sources.now c.change_one.new.sources c.args.s c.change_one.ensures c.requires.disabled) c.requires.keeps
