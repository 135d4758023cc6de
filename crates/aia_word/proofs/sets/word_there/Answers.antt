use Rattle.aia_word.proofs.SetLemmas.{word_shown}
use Rattle.aia_word.proofs.sets.word_there.Goals as goal

pub returns : goal.returns
returns c = word_shown c.args.words.now c.args.at (c.type_inv.words c.args.at).fits
