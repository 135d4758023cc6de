use Rattle.aia_entry.proofs.FormatLemmas.{basic_back, mrif_back}
use Rattle.aia_entry.proofs.laws.made_words_are_read_back.Goals as goal

pub returns-clause-basic : goal.returns-clause-basic
returns-clause-basic c page w1 low = basic_back page w1 low

pub returns-clause-mrif : goal.returns-clause-mrif
returns-clause-mrif c addr page identity aligned a b d = mrif_back addr page identity aligned a b d
