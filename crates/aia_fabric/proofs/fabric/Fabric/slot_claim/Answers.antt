use Rattle.aia_file.specs.InterruptFile.{claimed}
use Rattle.aia_fabric.specs.contracts.fabric.Fabric.{the_view}
use Rattle.aia_fabric_values.proofs.SlotDeeds.{slot_whole, slot_done}
use Rattle.aia_fabric.proofs.fabric.Fabric.slot_claim.Goals as goal

pub invariant_of-self : goal.invariant_of-self
invariant_of-self c = slot_whole (the_view c.self.inside) c.args.q c.claim.new.self.ram.now c.self.invariant c.claim.ensures.rest

pub returns-clause-done : goal.returns-clause-done
returns-clause-done c =
    rw (← c.self.view_is) (slot_done (the_view c.self.inside) c.args.q c.args.threshold claimed c.claim.new.self.ram.now
    (rw (c.claim.ensures.same_slot) at c.claim.ensures.after) c.claim.ensures.rest)
