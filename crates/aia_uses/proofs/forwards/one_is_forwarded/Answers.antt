use Rattle.std.proofs.Common.{true, refl, ap}
use Rattle.aia_word.specs.Sets.{word_of, least_of}
use Rattle.aia_word.specs.Packed.{packed, ones}
use Rattle.aia_regs.specs.DomainRegisters.{domain_register_of}
use Rattle.aia_regs.specs.Top.{least_pair}
use Rattle.aia_model.specs.Reading.{number_at, n32_at, flag_at, csr_at, line_at, reading}
use Rattle.aia_model.specs.FileAfter.{select_by, file_by}
use Rattle.aia_model.specs.MajorOf.{majors_of}
use Rattle.aia_model.specs.HomeOf.{home}
use Rattle.aia_model.specs.ReachOf.{in_force_of, stage_in_force_of}
use Rattle.aia_model.specs.Flight.{flight}
use Rattle.aia_model.specs.Passes.{passes_of}
use Rattle.aia_model.specs.Notice.{look_saw}
use Rattle.aia_model.specs.Act.{newest}
use Rattle.aia_model.specs.SourceOf.{wire_of, enabled, target, pending, genmsi_waits}
use Rattle.aia_model.specs.AddressOf.{addresses_of}
use Rattle.aia_model.specs.Sent.{all_senders}
use Rattle.aia_model.specs.Answer.{after}
use Rattle.aia_vcpu.specs.Vms.{vcpu_of}
use Rattle.aia_model.specs.declared.line.Line.TheVariants.{Wire}
use Rattle.aia_model.specs.FileOf.{SupervisorFile}
use Rattle.aia_model.specs.Script.{history_of}
use Rattle.aia_model.proofs.HistoryLemmas.{script_happens}
use Rattle.aia_uses.specs.declared.forwards.TheConstants.{PASSED}
use Rattle.aia_uses.specs.Worked.{forward}
use Rattle.aia_uses.proofs.ForwardFacts.{is_passed, is_forward, wire_allowed, is_sent, is_passed_then}
use Rattle.aia_uses.proofs.forwards.one_is_forwarded.Goals as goal

pub returns-clause-own : goal.returns-clause-own
unfolding word_of least_of packed ones number_at n32_at flag_at csr_at line_at reading select_by file_by majors_of home in_force_of
    stage_in_force_of flight passes_of look_saw domain_register_of newest wire_of enabled target pending least_pair addresses_of genmsi_waits
    all_senders after
returns-clause-own c = ap (λ file. file.pending 5)
    (c.a_forward_asks_at_its_guest_alone.ensures.guests (history_of PASSED.now) 0 forward (vcpu_of 0 0)
    (script_happens PASSED.now) is_passed is_forward)

pub returns-clause-asks : goal.returns-clause-asks
unfolding word_of least_of packed ones number_at n32_at flag_at csr_at line_at reading select_by file_by majors_of home in_force_of
    stage_in_force_of flight passes_of look_saw domain_register_of newest wire_of enabled target pending least_pair addresses_of genmsi_waits
    all_senders after
returns-clause-asks c = c.a_forward_asks_at_its_guest_alone.ensures.asks (history_of PASSED.now) 0 forward (script_happens PASSED.now)
    is_passed is_forward

pub returns-clause-hosts : goal.returns-clause-hosts
unfolding word_of least_of packed ones number_at n32_at flag_at csr_at line_at reading select_by file_by majors_of home in_force_of
    stage_in_force_of flight passes_of look_saw domain_register_of newest wire_of enabled target pending least_pair addresses_of genmsi_waits
    all_senders after
returns-clause-hosts c = c.a_forward_asks_at_its_guest_alone.ensures.hosts (history_of PASSED.now) 0 forward (SupervisorFile 0) 5
    (script_happens PASSED.now) is_passed is_forward refl

pub returns-clause-after_a_line : goal.returns-clause-after_a_line
unfolding word_of least_of packed ones number_at n32_at flag_at csr_at line_at reading select_by file_by majors_of home in_force_of
    stage_in_force_of flight passes_of look_saw domain_register_of newest wire_of enabled target pending least_pair addresses_of genmsi_waits
    all_senders after
returns-clause-after_a_line c = c.what_a_line_forwards_is_pending_after_it.ensures (history_of PASSED.now) (Wire 1 true) forward 0
    (script_happens PASSED.now) wire_allowed is_sent is_passed_then
