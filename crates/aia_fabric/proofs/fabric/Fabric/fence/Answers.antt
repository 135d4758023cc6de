use Rattle.std.proofs.Common.{sym, ap, ◌∙◌, length}
use Rattle.aia_vcpu.specs.Vms.{vcpu_of, is_vcpu_in, slot_of, notice_hart}
use Rattle.aia_fabric_values.specs.World.{World, flight_of}
use Rattle.aia_fabric_values.proofs.FlightLemmas.{all_landed_rest}
use Rattle.aia_fabric.proofs.fabric.Fabric.fence.Goals as goal

pub refetch-requires : goal.refetch-requires
refetch-requires c =
    let found = c.args.found in
    let rest = all_landed_rest (length (flight_of c.args.self.now found.vm)) c.args.self.now c.land_all.new.self found.vm c.land_all.ensures in
    record {
      there = ap (λ (w : World). is_vcpu_in w.vms (vcpu_of found.vm found.vcpu)) rest ∙ c.requires.there;
      slot = c.requires.slot ∙ sym (ap (λ (w : World). slot_of w.vms (vcpu_of found.vm found.vcpu)) rest);
      notice = c.requires.notice ∙ sym (ap (λ (w : World). notice_hart w.vms (vcpu_of found.vm found.vcpu)) rest);
    }
