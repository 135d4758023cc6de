use Rattle.aia_fabric_values.proofs.WholeLemmas.{joined_whole}
use Rattle.aia_fabric.proofs.fabric.Fabric.or_slot.Goals as goal

pub invariant_of-self : goal.invariant_of-self
invariant_of-self c =
    rw (c.or_pending.ensures.words) (joined_whole _ c.args.q c.args.k c.args.v c.self.invariant c.requires.slot c.requires.word c.requires.no_zero)
