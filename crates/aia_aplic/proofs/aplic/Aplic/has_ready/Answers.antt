use Rattle.std.proofs.Common.{◌≡◌, ℕ, ◌↔◌, false, subst}
use Rattle.aia_domain.specs.Domain.{DomainState, is_ready}
use Rattle.aia_aplic_values.specs.Aplic.{AplicState}
use Rattle.aia_aplic_values.proofs.FirstLemmas.{ready_in_first, ready_in_other}
use Rattle.aia_aplic.proofs.aplic.Aplic.has_ready.Goals as goal

abbrev NoneReady : DomainState → Type 0
NoneReady d = (s : ℕ) → is_ready d s ≡ false

pub returns-then-has_ready : goal.returns-then-has_ready
returns-then-has_ready c =
    subst (λ (a : AplicState). (c.has_ready.result ≡ false) ↔ (NoneReady a.root.domain × NoneReady a.child.domain)) c.self.view_is
    (ready_in_first c.has_ready.result (NoneReady c.self.inside.root.domain) (NoneReady c.self.inside.child.domain) c.if-has_ready.true
    c.has_ready.ensures)

pub returns-else-has_ready : goal.returns-else-has_ready
returns-else-has_ready c =
    subst (λ (a : AplicState). (c.has_ready-else-has_ready.result ≡ false) ↔ (NoneReady a.root.domain × NoneReady a.child.domain)) c.self.view_is
    (ready_in_other c.has_ready.result c.has_ready-else-has_ready.result (NoneReady c.self.inside.root.domain)
    (NoneReady c.self.inside.child.domain) c.if-has_ready.false c.has_ready.ensures c.has_ready-else-has_ready.ensures)
