use Rattle.std.proofs.Common.{[]}
use Rattle.aia_c.proofs.JoinedLemmas.{joined}
use Rattle.aia_c.proofs.laws.calls_answer_the_joined_script.Goals as goal

pub returns-clause-answers : goal.returns-clause-answers
returns-clause-answers c = λ old calls stands all. (joined calls old all).answers [] stands

pub returns-clause-stands : goal.returns-clause-stands
returns-clause-stands c = λ old calls stands all. (joined calls old all).stands [] stands
