use Rattle.std.proofs.Common.{ap}
use Rattle.aia_major.specs.VsMajor.{first_of}
use Rattle.aia_major.proofs.FirstLemmas.{first_of-none, first_of-found}
use Rattle.aia_major.proofs.CandidateLemmas.{ranks_decide, one_first}
use Rattle.aia_major.proofs.laws.the_first_comes_first.Goals as goal

pub returns-clause-found : goal.returns-clause-found
returns-clause-found c = first_of-found

pub returns-clause-none : goal.returns-clause-none
returns-clause-none c = λ some. (first_of-none some, ap first_of)

pub returns-clause-ranks : goal.returns-clause-ranks
returns-clause-ranks c = ranks_decide

pub returns-clause-one : goal.returns-clause-one
returns-clause-one c = one_first
