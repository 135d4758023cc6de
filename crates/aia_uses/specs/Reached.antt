-- What a VM does at a file of the host, told without the words of `aia_isolation`.
use Rattle.std.specs.Prelude.{◌≡◌, ◌⊎◌, ℕ, true}
use Rattle.aia_vcpu.specs.Vms.{Vcpu, notice_hart, notice_identity}
use Rattle.aia_model.specs.Event.{History}
use Rattle.aia_model.specs.Vms.{vms_of, has_vcpu}
use Rattle.aia_model.specs.FileAfter.{FileDeed}
use Rattle.aia_model.specs.FileAfter.FileDeed.{Stores, Rests}
use Rattle.aia_model.specs.FileOf.{FileName, SupervisorFile}

-- A deed at a file of the host is nothing, or it asks for the notice identity of a virtual hart of
-- a VM that is there, at the supervisor file of its notice hart.
abbrev pub RestsOrTells : History → ℕ → FileName → FileDeed → Type 0
RestsOrTells past v f deed = (deed ≡ Rests)
    ⊎ ((g : Vcpu) × (g.vm ≡ v) × (has_vcpu past g ≡ true)
    × (f ≡ SupervisorFile (notice_hart (vms_of past) g))
    × (deed ≡ Stores 0 (notice_identity (vms_of past) g)))
