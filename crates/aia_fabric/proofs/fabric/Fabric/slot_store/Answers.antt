use Rattle.aia_fabric_values.proofs.WholeLemmas.{noticed_there}
use Rattle.aia_fabric.proofs.fabric.Fabric.slot_store.Goals as goal

pub store_in-requires-clause-there : goal.store_in-requires-clause-there
store_in-requires-clause-there c =
    λ there. rw (← c.self.view_is) (noticed_there _ c.args.q c.notice_hart_at-hart.result c.self.invariant (rw (← c.self.view_is) at c.requires)
    c.notice_hart_at-hart.ensures)
