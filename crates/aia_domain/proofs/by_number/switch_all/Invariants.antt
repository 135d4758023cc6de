use Rattle.aia_domain.specs.InterruptSource.{EachSource}
use Rattle.aia_domain.proofs.Loops.{switched_below}
use Rattle.aia_domain.proofs.by_number.switch_all.Given as goal

abbrev pub invariant-loop-s : goal.invariant-loop-s
invariant-loop-s l = EachSource l.fn.sources l.sources (switched_below l.s l.msi)
