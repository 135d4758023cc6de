-- Forwards of the worked script, by computing; and what one says in files of machine level.
use Rattle.std.proofs.Common.{◌≡◌, ℕ, Bool, true, false, ◌&&◌, cond, is_none, Some, None, refl, arith}
use Rattle.std.specs.List.{Contains}
use Rattle.aia_word.specs.Sets.{word_of, least_of}
use Rattle.aia_word.specs.Packed.{packed, ones}
use Rattle.aia_regs.specs.BitUpdate.{BitUpdate}
use Rattle.aia_regs.specs.BitUpdate.BitUpdate.{Nothing}
use Rattle.aia_regs.specs.DomainRegisters.{domain_register_of}
use Rattle.aia_regs.specs.Top.{least_pair}
use Rattle.aia_model.specs.declared.line.Line.TheVariants.{Wire}
use Rattle.aia_model.specs.declared.msi.Msi.{Msi}
use Rattle.aia_model.specs.Event.{History}
use Rattle.aia_model.specs.Reading.{number_at, n32_at, flag_at, csr_at, line_at, reading}
use Rattle.aia_model.specs.FileAfter.{select_by, file_by}
use Rattle.aia_model.specs.MajorOf.{majors_of}
use Rattle.aia_model.specs.HomeOf.{home}
use Rattle.aia_model.specs.ReachOf.{in_force_of, stage_in_force_of}
use Rattle.aia_model.specs.Flight.{flight}
use Rattle.aia_model.specs.Passes.{passes_of, passed_by}
use Rattle.aia_model.specs.Aim.{IsForward, pass_reach}
use Rattle.aia_model.specs.Notice.{look_saw}
use Rattle.aia_model.specs.Act.{newest}
use Rattle.aia_model.specs.SourceOf.{wire_of, enabled, target, pending, genmsi_waits}
use Rattle.aia_model.specs.AddressOf.{addresses_of}
use Rattle.aia_model.specs.Sent.{all_senders, msis_sent_by}
use Rattle.aia_model.specs.FileOf.{MachineFile}
use Rattle.aia_model.specs.Refusal.{refusal}
use Rattle.aia_model.specs.Answer.{after, line_taken}
use Rattle.aia_model.specs.Script.{history_of}
use Rattle.aia_laws.specs.Forwards.{forward_said}
use Rattle.aia_uses.specs.declared.forwards.TheConstants.{PASSED}
use Rattle.aia_uses.specs.Worked.{forward}

pub nothing_said : (h : History) (p : ℕ) (msi : Msi) (hart i : ℕ) → forward_said h p msi (MachineFile hart) i ≡ Nothing
nothing_said h p msi hart i = neither (is_none (pass_reach h p)) _
  where
    neither : (memory : Bool) (word : BitUpdate) → cond (memory && false) word Nothing ≡ Nothing
    neither true word = refl
    neither false word = refl

pub is_passed : passed_by (history_of PASSED.now) forward.source ≡ Some 0
unfolding word_of least_of packed ones number_at n32_at flag_at csr_at line_at reading select_by file_by majors_of home in_force_of
    stage_in_force_of flight passes_of look_saw domain_register_of newest wire_of enabled target pending least_pair addresses_of genmsi_waits
    all_senders after
is_passed = refl

pub is_forward : IsForward (history_of PASSED.now) 0 forward
unfolding word_of least_of packed ones number_at n32_at flag_at csr_at line_at reading select_by file_by majors_of home in_force_of
    stage_in_force_of flight passes_of look_saw domain_register_of newest wire_of enabled target pending least_pair addresses_of genmsi_waits
    all_senders after
is_forward = record { page = refl; value = refl }

pub wire_allowed : refusal (history_of PASSED.now) (Wire 1 true) ≡ None
unfolding word_of least_of packed ones number_at n32_at flag_at csr_at line_at reading select_by file_by majors_of home in_force_of
    stage_in_force_of flight passes_of look_saw domain_register_of newest wire_of enabled target pending least_pair addresses_of genmsi_waits
    all_senders after
wire_allowed = refl

pub is_sent : Contains (msis_sent_by (history_of PASSED.now) (Wire 1 true)) forward
unfolding word_of least_of packed ones number_at n32_at flag_at csr_at line_at reading select_by file_by majors_of home in_force_of
    stage_in_force_of flight passes_of look_saw domain_register_of newest wire_of enabled target pending least_pair addresses_of genmsi_waits
    all_senders after
is_sent = (0, omega arith, refl)

pub is_passed_then : passed_by (line_taken (history_of PASSED.now) (Wire 1 true)) forward.source ≡ Some 0
unfolding word_of least_of packed ones number_at n32_at flag_at csr_at line_at reading select_by file_by majors_of home in_force_of
    stage_in_force_of flight passes_of look_saw domain_register_of newest wire_of enabled target pending least_pair addresses_of genmsi_waits
    all_senders after
is_passed_then = refl
