use Rattle.std.proofs.Common.{◌≡◌, length, All}
use Rattle.aia_domain.specs.InterruptSource.{InterruptSourceState, new_source}
use Rattle.aia_domain.proofs.by_number.new_sources.Given as goal

abbrev pub invariant-loop-number : goal.invariant-loop-number
invariant-loop-number l = (length l.sources.items ≡ l._number) × All (λ (x : InterruptSourceState). x ≡ new_source) l.sources.items
