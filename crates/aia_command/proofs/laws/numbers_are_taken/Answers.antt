use Rattle.aia_command.proofs.SpelledLemmas.{digits_asked, printed_asked}
use Rattle.aia_command.proofs.laws.numbers_are_taken.Goals as goal

pub returns-clause-printed : goal.returns-clause-printed
returns-clause-printed c = printed_asked

pub returns-clause-digits : goal.returns-clause-digits
returns-clause-digits c = digits_asked
