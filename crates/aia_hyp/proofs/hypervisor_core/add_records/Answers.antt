use Rattle.aia_hyp_values.proofs.VmLines.{one_record_more}
use Rattle.aia_hyp.proofs.hypervisor_core.add_records.Goals as goal

pub loop-preserved : goal.loop-preserved
loop-preserved c = one_record_more _ _ c.args.vcpus.now.items c.loop.counter _ c.push.ensures.items c.new.ensures c.loop.invariant
