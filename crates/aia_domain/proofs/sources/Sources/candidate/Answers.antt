use Rattle.std.proofs.Common.{◌≤◌, suc, length, subst}
use Rattle.aia_regs.specs.declared.limits.TheConstants.{SOURCES}
use Rattle.aia_domain.specs.Waiting.{SourcesState}
use Rattle.aia_domain.proofs.WaitingLemmas.{list_rising, list_small}
use Rattle.aia_domain.proofs.sources.Sources.candidate.Goals as goal

pub returns-clause-rising : goal.returns-clause-rising
returns-clause-rising c = list_rising c.args.self.now c.args.hart

pub returns-clause-small : goal.returns-clause-small
returns-clause-small c = list_small c.args.self.now c.args.hart
    (subst (λ (x : SourcesState). length x.sources ≤ suc SOURCES) c.self.view_is c.self.invariant.2)
