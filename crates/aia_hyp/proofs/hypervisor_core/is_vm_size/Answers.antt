use Rattle.std.proofs.Common.{sym, ◌∙◌}
use Rattle.aia_hyp_values.proofs.VmLines.{size_by_ones}
use Rattle.aia_hyp.proofs.hypervisor_core.is_vm_size.Goals as goal

pub returns-then-is_mask : goal.returns-then-is_mask
returns-then-is_mask c = c.is_from_one.ensures ∙ size_by_ones c.args.vcpus c.args.mask c.ranges.mask.fits (sym c.is_mask.ensures ∙ c.if-is_mask.true)
