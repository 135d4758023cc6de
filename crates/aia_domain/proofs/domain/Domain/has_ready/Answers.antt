use Rattle.std.proofs.Common.{◌≡◌, ℕ, false, ◌&&◌, sym, subst, ◌∙◌}
use Rattle.std.specs.Bool.{IsFalse}
use Rattle.aia_domain.specs.InterruptSource.{waits_at}
use Rattle.aia_domain.specs.Domain.{DomainState, is_ready}
use Rattle.aia_domain.proofs.WaitingLemmas.{when_on}
use Rattle.aia_domain.proofs.domain.Domain.has_ready.Goals as goal

pub returns-then-self : goal.returns-then-self
returns-then-self c =
    let x = c.self.inside.sources in
    let on : (s : ℕ) → (x.msi && c.self.inside.on && waits_at x.sources s) ≡ (x.msi && waits_at x.sources s) =
    λ s. when_on x.msi c.self.inside.on (waits_at x.sources s) c.if-self.true in
    subst (λ (d : DomainState). (IsFalse c.has_waiting.result → (s : ℕ) → is_ready d s ≡ false)
    × (((s : ℕ) → is_ready d s ≡ false) → IsFalse c.has_waiting.result)) c.self.view_is
    (λ none s. on s ∙ c.has_waiting.ensures.0 none s, λ none. c.has_waiting.ensures.1 (λ s. sym (on s) ∙ none s))
