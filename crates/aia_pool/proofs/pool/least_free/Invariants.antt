use Rattle.std.proofs.Common.{◌≡◌, ℕ, ◌+◌, ◌-◌, ◌<◌, ◌≤◌, true, false}
use Rattle.std.specs.Prelude.{slice_index_or}
use Rattle.aia_pool.proofs.pool.least_free.Given as goal

abbrev pub invariant-loop-file : goal.invariant-loop-file
invariant-loop-file l = (j : ℕ) → 1 ≤ j → j < l.file → slice_index_or l.out (l.first + j - 1) false ≡ true
