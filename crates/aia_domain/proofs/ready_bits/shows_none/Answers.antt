use Rattle.std.proofs.lemmas.Bool.{eqb-true, eq-eqb}
use Rattle.aia_word.specs.Sets.{is_in}
use Rattle.aia_domain.proofs.ReadyBitsLemmas.{empty_told, told_empty}
use Rattle.aia_domain.proofs.ready_bits.shows_none.Goals as goal

pub returns : goal.returns
returns c = (
  λ is. empty_told c.args.summary c.args.words.now c.requires.words c.requires.summary (eqb-true c.args.summary 0 is),
  λ none. eq-eqb c.args.summary 0 (told_empty c.args.summary (is_in c.args.words.now) c.ranges.summary.fits c.requires.summary none),
)
