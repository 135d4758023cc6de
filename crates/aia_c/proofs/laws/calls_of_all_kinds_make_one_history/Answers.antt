use Rattle.std.proofs.Common.{[]}
use Rattle.aia_c.proofs.JoinedLemmas.{left}
use Rattle.aia_c.proofs.laws.calls_of_all_kinds_make_one_history.Goals as goal

pub returns : goal.returns
returns c = λ old calls stands all. left calls old [] stands all
