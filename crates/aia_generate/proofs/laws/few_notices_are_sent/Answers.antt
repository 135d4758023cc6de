use Rattle.aia_generate.proofs.NoticeLemmas.{few_notices}
use Rattle.aia_generate.proofs.laws.few_notices_are_sent.Goals as goal

pub returns : goal.returns
returns c = few_notices
