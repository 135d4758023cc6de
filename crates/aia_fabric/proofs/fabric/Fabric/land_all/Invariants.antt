use Rattle.aia_fabric_values.proofs.FlightLemmas.{HaveLanded}
use Rattle.aia_fabric.proofs.fabric.Fabric.land_all.Given as goal

abbrev pub invariant-loop : goal.invariant-loop
invariant-loop l = HaveLanded l.fn.self l.self l.vm l.counter
