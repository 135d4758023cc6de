use Rattle.aia_command.proofs.SpelledLemmas.{first_word}
use Rattle.aia_command.proofs.laws.a_subcommand_comes_first.Goals as goal

pub returns : goal.returns
returns c = first_word
