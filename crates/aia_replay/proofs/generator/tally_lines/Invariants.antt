use Rattle.std.proofs.Common.{◌≡◌, [], ◌++◌}
use Rattle.aia_model.specs.Answer.{after_lines}
use Rattle.aia_generate.specs.Lines.{lines_left}
use Rattle.aia_generate.specs.Tally.{Tallies}
use Rattle.aia_replay.specs.Stands.{StandsFor}
use Rattle.aia_replay.proofs.generator.tally_lines.Given as goal

abbrev pub invariant-loop-line : goal.invariant-loop-line
invariant-loop-line l = ((goal.iterator-loop-line).can_next l.line-iterator) × ((goal.iterator-loop-line).is_finite l.line-iterator)
    × (l.yielded ++ lines_left l.line-iterator ≡ lines_left l.initial.line-iterator)
    × Tallies l.tally l.yielded
    × StandsFor l.engine (after_lines [] l.yielded)
