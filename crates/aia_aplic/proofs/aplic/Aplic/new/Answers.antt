use Rattle.aia_aplic_values.proofs.SideLemmas.{new-stands}
use Rattle.aia_aplic.proofs.aplic.Aplic.new.Goals as goal

pub returns-clause-stands : goal.returns-clause-stands
returns-clause-stands c = new-stands c.args.sources c.args.harts _
    (record { root = c.in_ok-root.ensures; child = c.in_ok-child.ensures; addresses = c.new-3.ensures })
