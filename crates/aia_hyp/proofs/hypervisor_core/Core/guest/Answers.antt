use Rattle.aia_hyp_values.proofs.GuestAccesses.{no_such_guest}
use Rattle.aia_hyp.proofs.hypervisor_core.Core.guest.Goals as goal

pub returns-in_default : goal.returns-in_default
returns-in_default c = rw (← c.self.view_is) (no_such_guest _ c.args.vm c.args.vcpu c.args.csr c.args.op c.in_default.ensures.none)
