-- Which identity of an interrupt file a claim takes, and when two histories have a virtual hart
-- read and claim the same.
use Rattle.std.specs.Prelude.{◌≡◌, ℕ, ◌≤◌, true, false, nat_eq, if◌then◌else◌}
use Rattle.aia_word.specs.Top.{lets_through}
use Rattle.aia_regs.specs.declared.access.Csr.{Csr}
use Rattle.aia_file.specs.InterruptFile.{InterruptFile}
use Rattle.aia_vcpu.specs.Vms.{Vcpu}
use Rattle.aia_model.specs.Event.{History, has_machine}
use Rattle.aia_model.specs.Vms.{has_vcpu}
use Rattle.aia_model.specs.HomeOf.{home}
use Rattle.aia_model.specs.GuestFile.{guest_file, guest_select}
use Rattle.aia_model.specs.Refusal.{serves}

-- An identity may be claimed: the file has it, it is pending and enabled, and the threshold lets it
-- through.
-- AIA 1.0, IMSIC, "Top external interrupt CSRs".
abbrev pub MayBeClaimed : InterruptFile → ℕ → Type 0
MayBeClaimed file i = (1 ≤ i) × (i ≤ file.n) × (file.pending i ≡ true) × (file.enabled i ≡ true)
    × (lets_through file.threshold i ≡ true)

-- An identity is the least that may be claimed.
pub record IsLeastToClaim (file : InterruptFile) (i : ℕ) : Type 0 where
  pub claimable : MayBeClaimed file i
  pub least : (j : ℕ) → MayBeClaimed file j → i ≤ j

-- The file with an identity pending no more, and all else as it was.
abbrev pub without : InterruptFile → ℕ → InterruptFile
without file i = record file { pending = λ j. if nat_eq i j then false else file.pending j }

-- ---- where a virtual hart runs

-- After a history a virtual hart is there, and has a CSR of its own where it is: it is resident, or
-- it runs from memory and the CSR is one of its interrupt file.
pub record HasCsr (h : History) (g : Vcpu) (csr : Csr) : Type 0 where
  pub machine : has_machine h ≡ true
  pub there : has_vcpu h g ≡ true
  pub served : serves (home h g) csr ≡ true

-- Two histories give a virtual hart one interrupt file and one select number.
pub record HasSameFile (h k : History) (g : Vcpu) : Type 0 where
  pub file : guest_file h g ≡ guest_file k g
  pub select : guest_select h g ≡ guest_select k g
