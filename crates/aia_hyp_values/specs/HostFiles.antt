-- The host's files in the core: their names in the model, where they are kept, and whose select
-- numbers they have. Vocabulary.
use Rattle.std.specs.Prelude.{◌≡◌, ◌≢◌, ℕ, ◌+◌, ◌*◌, Bool, true, false, slice_index}
use Rattle.aia_regs.specs.declared.access.Csr.{Csr}
use Rattle.aia_regs.specs.declared.access.Op.{Op}
use Rattle.aia_regs.specs.declared.access.Level.{Level}
use Rattle.aia_regs.specs.declared.access.Level.TheVariants as levels
use Rattle.aia_file.specs.InterruptFile.{SameFile}
use Rattle.aia_file.specs.FileState.{FileState, shown}
use Rattle.aia_file.specs.declared.spot.Spot.{Spot}
use Rattle.aia_file.specs.declared.spot.Spot.TheVariants as spots
use Rattle.aia_file.specs.Imsic.{IsThere, file_at}
use Rattle.aia_model.specs.declared.line.Line.{Line}
use Rattle.aia_model.specs.declared.line.Line.TheVariants.{MachineCsr, HostCsr}
use Rattle.aia_model.specs.FileAfter.{FileDeed, select_after, file_after}
use Rattle.aia_model.specs.FileOf.{FileName, MachineFile, SupervisorFile}
use Rattle.aia_hyp_values.specs.Core.{CoreState}

-- A level of the host: machine level or supervisor level.
abbrev pub IsHost : Level → Type 0
IsHost levels.Guest = ⊥
IsHost level = Unit {0}

-- The file of a hart at a level of the host.
abbrev pub name_of : Level → ℕ → FileName
name_of levels.Machine hart = MachineFile hart
name_of level hart = SupervisorFile hart

-- The line that reaches a CSR at a level of the host.
abbrev pub csr_line : Level → ℕ → Csr → Op → Line
csr_line levels.Machine hart csr op = MachineCsr hart csr op
csr_line level hart csr op = HostCsr hart csr op

-- Where a file is among all files.
abbrev pub host_spot : FileName → Spot
host_spot (MachineFile hart) = spots.MachineFile hart
host_spot (SupervisorFile hart) = spots.SupervisorFile hart

-- Whether a place among all files is that of a file of the host.
abbrev pub is_host_spot : Spot → Bool
is_host_spot (spots.MachineFile hart) = true
is_host_spot (spots.SupervisorFile hart) = true
is_host_spot spot = false

-- Where its select number is among the select numbers: of each hart that of machine level, then
-- that of supervisor level.
abbrev pub select_place : FileName → ℕ
select_place (MachineFile hart) = 2 * hart
select_place (SupervisorFile hart) = 2 * hart + 1

-- What is kept of it, and its select number.
abbrev pub file_in : CoreState → FileName → FileState
file_in x f = file_at x.world.imsic (host_spot f)

abbrev pub select_in : CoreState → FileName → ℕ
select_in x f = slice_index x.selects (select_place f)

-- A deed was done at a file and its select number.
pub record FileDone (old new : CoreState) (f : FileName) (deed : FileDeed) : Type 0 where
  pub file : SameFile (shown (file_in new f))
      (file_after (select_in old f) deed (shown (file_in old f)))
  pub select : select_in new f ≡ select_after deed (select_in old f)

-- A deed was done at one file of the host; every other file, a guest's too, every other select
-- number, all else that stores reach, and all that is kept of virtual harts is as it was.
pub record HasDone (old new : CoreState) (f : FileName) (deed : FileDeed) : Type 0 where
  pub harts : new.world.imsic.harts ≡ old.world.imsic.harts
  pub guests : new.world.imsic.guests ≡ old.world.imsic.guests
  pub rest : new.world ≡ record old.world { imsic = new.world.imsic }
  pub leases : new.leases ≡ old.leases
  pub passes : new.passes ≡ old.passes
  pub vcpus : new.vcpus ≡ old.vcpus
  pub done : FileDone old new f deed
  pub files : (spot : Spot) → IsThere old.world.imsic spot → spot ≢ host_spot f
      → file_at new.world.imsic spot ≡ file_at old.world.imsic spot
  pub selects : (g : FileName) → g ≢ f → select_in new g ≡ select_in old g
