-- A virtual hart that is found is within the limits of a machine.
use Rattle.std.proofs.Common.{◌<◌, arith}
use Rattle.aia_regs.specs.declared.limits.TheConstants.{VCPUS}
use Rattle.aia_vcpu.specs.Vms.{vcpu_of, vcpus_in}
use Rattle.aia_vcpu.proofs.VmLemmas.{slot_below}
use Rattle.aia_fabric_values.specs.declared.found.Found.{Found}
use Rattle.aia_fabric_values.specs.World.{World}
use Rattle.aia_fabric_values.specs.Found.{IsFound}
use Rattle.aia_fabric_values.specs.Whole.{IsWhole}
use Rattle.aia_fabric_values.proofs.WholeLemmas.{notice_hart_there}

pub found_there : (w : World) (found : Found) → IsWhole w → IsFound w found → (found.slot < vcpus_in w.vms) × (found.slot < VCPUS)
    × (found.notice < w.imsic.harts)
found_there w found whole is =
    let slot = is.slot in
    let below = slot_below w.vms (vcpu_of found.vm found.vcpu) is.there in
    let hart = notice_hart_there w (vcpu_of found.vm found.vcpu) whole is.there in
    (omega (arith, slot, below), omega (arith, slot, below, whole.vcpus), omega (arith, is.notice, hart))
