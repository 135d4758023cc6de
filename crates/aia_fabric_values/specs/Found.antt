-- A virtual hart as it is found. Vocabulary.
use Rattle.std.specs.Prelude.{◌≡◌, true}
use Rattle.aia_vcpu.specs.Vms.{vcpu_of, is_vcpu_in, slot_of, notice_hart}
use Rattle.aia_fabric_values.specs.declared.found.Found.{Found}
use Rattle.aia_fabric_values.specs.World.{World}

-- The virtual hart is there, with its slot and its notice hart.
pub record IsFound (w : World) (found : Found) : Type 0 where
  pub there : is_vcpu_in w.vms (vcpu_of found.vm found.vcpu) ≡ true
  pub slot : found.slot ≡ slot_of w.vms (vcpu_of found.vm found.vcpu)
  pub notice : found.notice ≡ notice_hart w.vms (vcpu_of found.vm found.vcpu)
