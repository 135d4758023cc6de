use Rattle.aia_command.proofs.SpelledLemmas.{asked_as_spelled}
use Rattle.aia_command.proofs.laws.words_ask_for_what_they_spell.Goals as goal

pub returns : goal.returns
returns c = asked_as_spelled
