use Rattle.std.proofs.Common.{◌≡◌}
use Rattle.aia_move_values.specs.Touches.{SameMachine}
use Rattle.aia_run_tests.proofs.rehearsals.rehearse.Given as goal

abbrev pub invariant-loop-k : goal.invariant-loop-k
invariant-loop-k l = record {
  machine : SameMachine l.fn.fabric l.fabric;
  places : l.rehearsal.passage ≡ l.fn.rehearsal.passage;
}
