use Rattle.aia_word.proofs.SummaryLemmas.{word_emptied, word_filled}
use Rattle.aia_word.proofs.summary.refreshed.Goals as goal

pub returns-then-word-eq0 : goal.returns-then-word-eq0
returns-then-word-eq0 c = λ members shows others. word_emptied c.args.summary c.args.k c.args.word members c.requires shows c.if-word-eq0.true others

pub returns-else-word-eq0 : goal.returns-else-word-eq0
returns-else-word-eq0 c = λ members shows others. word_filled c.args.summary c.args.k c.args.word members c.requires c.ranges.word.fits shows
    c.if-word-eq0.false others
