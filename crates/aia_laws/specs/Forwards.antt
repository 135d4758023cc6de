-- What the forward of a passed source is to the files of guests and of the host. Vocabulary.
use Rattle.std.specs.Prelude.{ℕ, Bool, ◌&&◌, is_none, if◌then◌else◌, ◌∷◌}
use Rattle.std.specs.Option.{option_map}
use Rattle.aia_regs.specs.BitUpdate.{BitUpdate}
use Rattle.aia_regs.specs.BitUpdate.BitUpdate.{Nothing}
use Rattle.aia_vcpu.specs.Vms.{Vcpu, is_vcpu, notice_identity}
use Rattle.aia_vcpu.specs.Aims.{host_identity}
use Rattle.aia_model.specs.declared.msi.Msi.{Msi}
use Rattle.aia_model.specs.Event.{History, has_hart}
use Rattle.aia_model.specs.Event.Event.{Delivered, Relayed}
use Rattle.aia_model.specs.Vms.{vms_of}
use Rattle.aia_model.specs.Passes.{nth_pass}
use Rattle.aia_model.specs.Aim.{pass_reach, pass_notice_hart}
use Rattle.aia_model.specs.Notice.{noticed}
use Rattle.aia_model.specs.FileAfter.{FileDeed, relay_said}
use Rattle.aia_model.specs.FileAfter.FileDeed.{Stores, Rests}
use Rattle.aia_model.specs.FileOf.{FileName, MachineFile, SupervisorFile, is_file, file_of}

-- The file of the host at which a pass is known.
abbrev pub pass_file : History → ℕ → FileName
pass_file h p = SupervisorFile (pass_notice_hart h p)

-- Whether a file of the host is there.
abbrev pub has_file : History → FileName → Bool
has_file h (MachineFile hart) = has_hart h hart
has_file h (SupervisorFile hart) = has_hart h hart

-- The deed of the forward of a pass at the file of a virtual hart.
abbrev pub forward_deed : History → ℕ → Vcpu → FileDeed
forward_deed h p g =
    if is_vcpu g (nth_pass h p).to then Stores 0 (nth_pass h p).identity else Rests

-- What is said of identity i's being pending in a file of the host, by an MSI of a pass that is
-- delivered and, where the pass leads to memory, given on: what the MSI asked for there is taken
-- again.
abbrev pub forward_said : History → ℕ → Msi → FileName → ℕ → BitUpdate
forward_said h p msi f i =
    if is_none (pass_reach h p) && is_file f (pass_file h p)
    then relay_said (file_of h f).n (host_identity p)
    (option_map (notice_identity (vms_of h)) (noticed (Delivered msi ∷ h) (Relayed p))) i
    else Nothing
