use Rattle.aia_fabric_values.proofs.WholeLemmas.{store_whole}
use Rattle.aia_fabric.proofs.fabric.Fabric.store_slot.Goals as goal

pub invariant_of-self : goal.invariant_of-self
invariant_of-self c =
    rw (c.land.ensures.words) (store_whole _ c.args.q c.args.offset c.args.value c.self.invariant c.requires)
