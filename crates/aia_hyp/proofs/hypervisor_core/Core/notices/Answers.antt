use Rattle.aia_hyp.proofs.hypervisor_core.Core.notices.Goals as goal

pub returns-clause-stands : goal.returns-clause-stands
returns-clause-stands c = rw (← c.self.view_is) c.self.invariant
