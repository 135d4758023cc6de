use Rattle.aia_command.proofs.NumberLemmas.{number_up_to-some}
use Rattle.aia_command.proofs.laws.a_number_is_digits.Goals as goal

pub returns : goal.returns
returns c = number_up_to-some
