use Rattle.std.proofs.Common.{◌≡◌, refl}
use Rattle.aia_vcpu.specs.Aims.{pass_reaches}
use Rattle.aia_vcpu.specs.Routes.{MayReach, peers_reach, is_watched}
use Rattle.aia_vcpu.proofs.HomeLemmas.{resting_keeps}
use Rattle.aia_vcpu.proofs.laws.running_from_memory_moves_nothing.Goals as goal

pub returns-clause-devices : goal.returns-clause-devices
returns-clause-devices c = λ rest there place m. resting_keeps (λ x. MayReach x place) (λ from to r. r) rest there m

pub returns-clause-peers : goal.returns-clause-peers
returns-clause-peers c = λ rest there. resting_keeps (λ x. peers_reach x ≡ peers_reach there) (λ from to e. e) rest there refl

pub returns-clause-passes : goal.returns-clause-passes
returns-clause-passes c = λ rest there r. resting_keeps (λ x. pass_reaches r x ≡ pass_reaches r there) (λ from to e. e) rest there refl

pub returns-clause-watched : goal.returns-clause-watched
returns-clause-watched c = λ rest there words w. resting_keeps (λ x. is_watched words x w ≡ is_watched words there w) (λ from to e. e) rest there refl
