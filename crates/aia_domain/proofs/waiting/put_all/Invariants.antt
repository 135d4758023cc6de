use Rattle.std.proofs.Common.{◌-◌, ◌<◌, length}
use Rattle.aia_domain.specs.Order.{ordered}
use Rattle.aia_domain.specs.InterruptSource.{waiting_pair_at}
use Rattle.aia_domain.specs.Waiting.{AllHave}
use Rattle.aia_domain.proofs.waiting.put_all.Given as goal

abbrev pub invariant-loop-s : goal.invariant-loop-s
invariant-loop-s l = record {
  have : AllHave (λ hart. ordered (waiting_pair_at l.sources hart) l.s (length l.sources - l.s)) (length l.sources - 1) l.fronts;
  low : 0 < l.s;
}
