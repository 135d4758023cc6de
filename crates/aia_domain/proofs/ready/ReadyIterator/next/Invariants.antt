use Rattle.std.proofs.Common.{◌≡◌, ◌-◌}
use Rattle.aia_domain.specs.Domain.{ready_from}
use Rattle.aia_domain.proofs.ready.ReadyIterator.next.Given as goal

abbrev pub invariant-loop-self : goal.invariant-loop-self
invariant-loop-self l = (ready_from l.self.domain.now l.self.at ≡ ready_from l.initial.self.domain.now l.initial.self.at)
    × (l.self.domain ≡ l.initial.self.domain)

abbrev pub decreases-loop-self : goal.decreases-loop-self
decreases-loop-self l = l.end - l.self.at
