use Rattle.std.proofs.Common.{◌≡◌, ℕ, ◌&&◌, nat_lt}
use Rattle.aia_word.specs.Sets.{is_in}
use Rattle.aia_domain.specs.InterruptSource.{waits_at}
use Rattle.aia_domain.proofs.waiting.tell_all.Given as goal

abbrev pub invariant-loop-s : goal.invariant-loop-s
invariant-loop-s l = (t : ℕ) → is_in l.ready t ≡ (nat_lt t l.s && waits_at l.sources t)
