use Rattle.aia_aplic_values.specs.Sending.{waiting}
use Rattle.aia_replay.proofs.DeliveryLemmas.{SoFar}
use Rattle.aia_replay.proofs.machine.Machine.deliver_waiting.Given as goal

abbrev pub invariant-loop-msi : goal.invariant-loop-msi
invariant-loop-msi l = SoFar l.fn.self l.self

abbrev pub decreases-loop-msi : goal.decreases-loop-msi
decreases-loop-msi l = waiting l.self.wires.aplic
