use Rattle.aia_tests.proofs.moves.take_files.Given as goal
use Rattle.std.specs.Prelude.{◌≡◌}

-- as many harts as before
abbrev pub invariant-loop-file : goal.invariant-loop-file
invariant-loop-file g l = l.pool.harts ≡ l.fn.pool.harts
