use Rattle.std.proofs.Common.{ap}
use Rattle.aia_uses.proofs.claims.what_a_claim_takes.Goals as goal

pub returns-clause-answered : goal.returns-clause-answered
returns-clause-answered c = λ h g op i ok writes low high pending enabled passes least.
    (c.a_claim_takes_the_least_identity.ensures.found h g op i ok writes
    (record { claimable = (low, high, pending, enabled, passes); least = λ j may. least j may.0 may.1 may.2 may.3 may.4 })).0

pub returns-clause-left : goal.returns-clause-left
returns-clause-left c = λ h g op i j ok writes least.
    let left = (c.a_claim_takes_the_least_identity.ensures.found h g op i ok writes least).1 in (
      ap (λ file. file.pending j) left,
      ap (λ file. file.enabled) left,
      ap (λ file. file.threshold) left,
      ap (λ file. file.delivery) left,
      ap (λ file. file.n) left,
    )

pub returns-clause-none : goal.returns-clause-none
returns-clause-none c = λ h g op ok none.
    c.a_claim_takes_the_least_identity.ensures.none h g op ok (λ i may. none i may.0 may.1 may.2 may.3 may.4)
