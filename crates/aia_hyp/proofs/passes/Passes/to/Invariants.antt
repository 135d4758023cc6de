use Rattle.aia_vcpu.specs.Vms.{vcpu_of}
use Rattle.aia_hyp_values.proofs.PassLemmas.{HasGathered}
use Rattle.aia_hyp.proofs.passes.Passes.to.Given as goal

abbrev pub invariant-loop-k : goal.invariant-loop-k
invariant-loop-k l = HasGathered l.self-inside.kept.items l.k (vcpu_of l.vm l.vcpu) l.own.items
