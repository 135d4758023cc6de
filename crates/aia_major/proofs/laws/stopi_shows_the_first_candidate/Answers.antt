use Rattle.std.proofs.Common.{ap}
use Rattle.aia_major.specs.VsMajor.{first_of, candidate_value}
use Rattle.aia_major.proofs.CandidateLemmas.{major_shown, range_shown, none_shown}
use Rattle.aia_major.proofs.laws.stopi_shows_the_first_candidate.Goals as goal

pub returns-clause-major : goal.returns-clause-major
returns-clause-major c = major_shown

pub returns-clause-range : goal.returns-clause-range
returns-clause-range c = range_shown

pub returns-clause-none : goal.returns-clause-none
returns-clause-none c = λ m stopei signal may. (none_shown m stopei signal may, ap (λ some. candidate_value m.hvictl (first_of some)))
