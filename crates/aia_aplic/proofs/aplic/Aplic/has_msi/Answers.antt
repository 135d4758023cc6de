use Rattle.std.proofs.Common.{sym, ◌∙◌}
use Rattle.aia_aplic_values.proofs.FirstLemmas.{genmsi_does_wait, ready_does_wait}
use Rattle.aia_aplic.proofs.aplic.Aplic.has_msi.Goals as goal

pub returns-then-genmsi_waits-clause-waits : goal.returns-then-genmsi_waits-clause-waits
returns-then-genmsi_waits-clause-waits c = genmsi_does_wait c.args.self.now c.genmsi_waits.result c.genmsi_waits.ensures c.if-genmsi_waits.true

pub returns-else-genmsi_waits-clause-waits : goal.returns-else-genmsi_waits-clause-waits
returns-else-genmsi_waits-clause-waits c = ready_does_wait c.args.self.now c.has_ready.result
    (sym c.genmsi_waits.ensures ∙ c.if-genmsi_waits.false) c.has_ready.ensures
