use Rattle.aia_c.proofs.JoinedLemmas.{one_line}
use Rattle.aia_c.proofs.laws.a_text_is_a_script_of_one_line.Goals as goal

pub returns : goal.returns
returns c = one_line
