use Rattle.std.proofs.Common.{◌≡◌, ℕ, false, ◌&&◌, sym, subst, ◌∙◌}
use Rattle.std.specs.Bool.{IsFalse}
use Rattle.aia_domain.specs.InterruptSource.{waits_at}
use Rattle.aia_domain.specs.Waiting.{SourcesState}
use Rattle.aia_domain.proofs.sources.Sources.has_waiting.Goals as goal

pub returns : goal.returns
returns c =
    let bits = c.self.invariant.4.bits in
    subst (λ (x : SourcesState). (IsFalse c.has_waiting.result → (s : ℕ) → (x.msi && waits_at x.sources s) ≡ false)
    × (((s : ℕ) → (x.msi && waits_at x.sources s) ≡ false) → IsFalse c.has_waiting.result)) c.self.view_is
    (λ none s. sym (bits s) ∙ c.has_waiting.ensures.0 none s, λ none. c.has_waiting.ensures.1 (λ s. bits s ∙ none s))
