use Rattle.aia_fabric_values.proofs.WholeLemmas.{vm_whole}
use Rattle.aia_fabric.proofs.fabric.Fabric.add_vm.Goals as goal

pub invariant_of-self : goal.invariant_of-self
invariant_of-self c =
    rw (c.push.ensures, c.vm.ensures, c.add.ensures, c.table_byte.ensures, c.count-number.ensures, ← c.self.invariant.tables)
    (vm_whole _ c.args.vm c.self.invariant (rw (← c.self.view_is) at c.requires.few) c.requires.mask c.requires.numbers
    (rw (← c.self.view_is) at c.requires.vcpus) (rw (← c.self.view_is) at c.requires.hart))
