use Rattle.std.proofs.Common.{◌<◌, length, arith}
use Rattle.aia_fabric_values.proofs.FlightLemmas.{one_landed}
use Rattle.aia_fabric.proofs.fabric.Fabric.land_all.Goals as goal

pub loop-preserved : goal.loop-preserved
loop-preserved c =
    let there : c.args.vm < length c.args.self.now.flights = omega (arith, c.recall.ensures.whole.flights, c.requires) in
    one_landed c.args.self.now c.loop.self c.land.new.self c.args.vm c.loop.counter there
    (omega (arith, c.loop.invariant.left, c.flying-end.ensures.value, c.loop.auto.counter-end)) c.loop.invariant
    c.recall-in-loop.ensures.whole c.land.ensures
