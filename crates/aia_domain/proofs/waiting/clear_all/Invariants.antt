use Rattle.std.proofs.Common.{nat_lt, if◌then◌else◌, []}
use Rattle.aia_domain.specs.InterruptSource.{EachAt}
use Rattle.aia_domain.proofs.waiting.clear_all.Given as goal

abbrev pub invariant-loop-hart : goal.invariant-loop-hart
invariant-loop-hart l = EachAt l.fn.fronts l.fronts (λ hart x. if nat_lt hart l.hart then record x { pairs = [] } else x)
