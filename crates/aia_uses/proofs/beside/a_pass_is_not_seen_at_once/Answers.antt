use Rattle.std.proofs.Common.{◌∷◌}
use Rattle.aia_model.specs.declared.line.Line.TheVariants as lines
use Rattle.aia_model.specs.Event.Event.{Accepted}
use Rattle.aia_uses.proofs.ReachedFacts.{itself}
use Rattle.aia_uses.proofs.BesideFacts.{pass_unseen}
use Rattle.aia_uses.proofs.beside.a_pass_is_not_seen_at_once.Goals as goal

pub returns : goal.returns
returns c = λ h source vm vcpu identity g csr op.
    c.a_pass_tells_a_vm_that_it_came.ensures.lines g.vm (lines.GuestCsr g.vm g.vcpu csr op) (Accepted (lines.Pass source vm vcpu identity) ∷ h) h
    (itself g.vm) (pass_unseen g.vm h source vm vcpu identity)
