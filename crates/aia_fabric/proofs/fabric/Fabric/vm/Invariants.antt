use Rattle.aia_fabric_values.proofs.MakingLemmas.{HasMade}
use Rattle.aia_fabric.proofs.fabric.Fabric.vm.Given as goal

abbrev pub invariant-loop-file : goal.invariant-loop-file
invariant-loop-file l = HasMade l.fn.self l.self (record { vcpus = l.vcpus; mask = l.mask; notice_hart = l.hart }) l.file
