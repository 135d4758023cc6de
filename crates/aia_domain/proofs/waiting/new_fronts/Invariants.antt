use Rattle.std.proofs.Common.{◌≡◌, [], length, All}
use Rattle.aia_domain.specs.Order.{CandidatesState}
use Rattle.aia_domain.proofs.waiting.new_fronts.Given as goal

abbrev pub invariant-loop-hart : goal.invariant-loop-hart
invariant-loop-hart l = (length l.fronts.items ≡ l._hart) × All (λ (x : CandidatesState). x ≡ record { room = l.room; pairs = [] }) l.fronts.items
