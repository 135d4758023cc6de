-- What concerns a VM, and the machine level, in scripts that pass sources.
use Rattle.std.specs.Prelude.{◌≡◌, ℕ, Bool, true, false, ◌||◌, is_some, length, Option, Some}
use Rattle.aia_vcpu.specs.Vms.{Vcpu}
use Rattle.aia_model.specs.declared.answer.Answer.{Answer}
use Rattle.aia_model.specs.declared.answer.Answer.TheVariants.{Refused}
use Rattle.aia_model.specs.declared.refusal.Refusal.TheVariants.{Full, Passed}
use Rattle.aia_model.specs.declared.line.Line.{Line}
use Rattle.aia_model.specs.declared.line.Line.TheVariants.{Wire, Load, Store}
use Rattle.aia_model.specs.declared.line.Line.TheVariants as lines
use Rattle.aia_model.specs.Act.{domain_at}
use Rattle.aia_model.specs.Event.{History, machine_of}
use Rattle.aia_model.specs.Vms.{vms_of}
use Rattle.aia_model.specs.Flight.{flight}
use Rattle.aia_model.specs.HomeOf.{home}
use Rattle.aia_model.specs.StateOf.{state_of}
use Rattle.aia_isolation.specs.Concerns.{concerns, is_about_homes, is_of_machine_level}

-- Whether a line decides what the APLIC sends, beside those about where virtual harts are: it
-- drives a wire, loads or stores in a control region, or passes a source, to whichever virtual
-- hart.
abbrev pub is_about_sources : Line → Bool
is_about_sources (Wire source level) = true
is_about_sources (Load addr) = is_some (domain_at addr)
is_about_sources (Store addr value) = is_some (domain_at addr)
is_about_sources (lines.Pass source vm vcpu identity) = true
is_about_sources line = false

-- Whether a line concerns a VM where sources may be passed: it does where none is, or decides what
-- the APLIC sends.
abbrev pub concerns_by_sources : ℕ → Line → Bool
concerns_by_sources v line = concerns v line || is_about_sources line

-- Whether a line concerns the machine level where sources may be passed: it does where none is,
-- makes a VM, is about where virtual harts are, or passes a source.
abbrev pub is_of_machine_level_by_sources : Line → Bool
is_of_machine_level_by_sources (lines.Vm vcpus mask hart) = true
is_of_machine_level_by_sources (lines.Pass source vm vcpu identity) = true
is_of_machine_level_by_sources line = is_of_machine_level line || is_about_homes line

-- ---- what a pass tells

-- Two histories look alike to a VM, whatever is passed in each: the machine and the VMs are the
-- same, all virtual harts are in the same places, as many stores of the VM are in flight, and its
-- virtual harts have the same state.
pub record LooksAlike (v : ℕ) (h k : History) : Type 0 where
  pub machine : machine_of h ≡ machine_of k
  pub vms : vms_of h ≡ vms_of k
  pub homes : (x : Vcpu) → home h x ≡ home k x
  pub flights : length (flight h v) ≡ length (flight k v)
  pub guests : (x : Vcpu) → x.vm ≡ v → state_of h x ≡ state_of k x

-- Whether the word on a `pass` line tells of passes that came before: `full` or `passed`.
abbrev pub tells_of_passes : Option Answer → Bool
tells_of_passes (Some (Refused Full)) = true
tells_of_passes (Some (Refused Passed)) = true
tells_of_passes word = false
