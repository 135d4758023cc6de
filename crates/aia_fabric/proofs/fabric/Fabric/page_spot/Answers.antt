use Rattle.std.proofs.Common.{sym, arith}
use Rattle.aia_fabric_values.proofs.PlaceLemmas.{page_past}
use Rattle.aia_fabric.proofs.fabric.Fabric.page_spot.Goals as goal

pub returns-in-None-clause-value : goal.returns-in-None-clause-value
returns-in-None-clause-value c =
    rw (← c.self.view_is) (sym (page_past c.self.inside.imsic c.args.page c.self.invariant.harts c.self.invariant.guests
    (omega (arith, c.in-None.ensures))))
