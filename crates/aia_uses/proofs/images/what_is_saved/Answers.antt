use Rattle.aia_uses.proofs.images.what_is_saved.Goals as goal

pub returns-clause-parts : goal.returns-clause-parts
returns-clause-parts c = λ x k state low. c.what_is_saved_may_be_loaded.ensures.parts x k state low

pub returns-clause-answered : goal.returns-clause-answered
returns-clause-answered c = λ h g k ok. c.what_is_saved_may_be_loaded.ensures.answered h g.vm g.vcpu k ok

pub returns-clause-saved : goal.returns-clause-saved
returns-clause-saved c = λ h g k good ok. c.what_is_saved_may_be_loaded.ensures.saved h g.vm g.vcpu k good ok

pub returns-clause-accepted : goal.returns-clause-accepted
returns-clause-accepted c = λ h other g x k good ok stands there parked same.
    c.what_is_saved_may_be_loaded.ensures.accepted h other g.vm g.vcpu k x good ok stands there parked same
