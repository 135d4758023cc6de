use Rattle.aia_c.proofs.NameLemmas.{each_answer, only_its}
use Rattle.aia_c.proofs.laws.a_code_is_named_as_its_answers.Goals as goal

pub returns-clause-each : goal.returns-clause-each
returns-clause-each c = each_answer

pub returns-clause-only : goal.returns-clause-only
returns-clause-only c = only_its
