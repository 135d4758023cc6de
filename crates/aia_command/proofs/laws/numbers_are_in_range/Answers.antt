use Rattle.aia_command.proofs.SpelledLemmas.{count_in_range, seed_in_range, width_in_range}
use Rattle.aia_command.proofs.laws.numbers_are_in_range.Goals as goal

pub returns-clause-count : goal.returns-clause-count
returns-clause-count c = count_in_range

pub returns-clause-seed : goal.returns-clause-seed
returns-clause-seed c = seed_in_range

pub returns-clause-width : goal.returns-clause-width
returns-clause-width c = width_in_range
