use Rattle.std.proofs.Common.{◌≡◌, ◌*◌, subst}
use Rattle.aia_word.specs.Sets.{word_of}
use Rattle.aia_domain.proofs.ReadyBitsLemmas.{none_word}
use Rattle.aia_domain.specs.InterruptSource.{waits_at}
use Rattle.aia_domain.specs.Domain.{DomainState, is_ready}
use Rattle.aia_domain.proofs.WaitingLemmas.{when_off}
use Rattle.aia_domain.proofs.domain.Domain.ready_word.Goals as goal

pub returns-else-self-clause-word : goal.returns-else-self-clause-word
returns-else-self-clause-word c =
    let x = c.self.inside.sources in
    subst (λ (d : DomainState). 0 ≡ word_of (is_ready d) (64 * c.args.k) 64) c.self.view_is
    (none_word _ (64 * c.args.k) (λ s. when_off x.msi c.self.inside.on (waits_at x.sources s) c.if-self.false))
