use Rattle.aia_entry.proofs.TableLemmas.{has_entry, mask_parts}
use Rattle.aia_entry.proofs.table.Table.fence.Goals as goal

pub bounds-self-inside-file : goal.bounds-self-inside-file
bounds-self-inside-file c = has_entry c.self.inside.mask c.args.file (mask_parts c.self.inside.mask c.self.invariant.0).1
    (rw (← c.self.view_is) at c.requires.file)
