use Rattle.std.proofs.Common.{◌≡◌, ℕ, ◌↔◌, false, IsFalse, subst}
use Rattle.aia_domain.specs.Domain.{is_ready}
use Rattle.aia_aplic_values.specs.Side.{SideState}
use Rattle.aia_aplic.proofs.side.Side.has_ready.Goals as goal

pub returns : goal.returns
returns c = subst (λ (a : SideState). IsFalse c.has_ready.result ↔ ((s : ℕ) → is_ready a.domain s ≡ false)) c.self.view_is c.has_ready.ensures
