use Rattle.aia_fabric_values.proofs.WholeLemmas.{noticed_there}
use Rattle.aia_fabric.proofs.fabric.Fabric.notice.Goals as goal

pub post-requires : goal.post-requires
post-requires c =
    rw (← c.self.view_is) (noticed_there _ c.args.q c.notice_hart_at-hart.result c.self.invariant (rw (← c.self.view_is) at c.requires)
    c.notice_hart_at-hart.ensures)
