use Rattle.aia_major.proofs.CandidateLemmas.{live_majors}
use Rattle.aia_major.proofs.laws.vti_says_which_candidates_there_are.Goals as goal

pub returns-clause-live : goal.returns-clause-live
returns-clause-live c = live_majors
