-- By computing, but for what holds after every script.
use Rattle.std.proofs.Common.{refl}
use Rattle.aia_word.specs.Sets.{word_of, least_of}
use Rattle.aia_word.specs.Packed.{packed, ones}
use Rattle.aia_model.specs.Reading.{number_at, n32_at, flag_at, csr_at, line_at, reading}
use Rattle.aia_model.specs.FileAfter.{select_by, file_by}
use Rattle.aia_model.specs.MajorOf.{majors_of}
use Rattle.aia_model.specs.HomeOf.{home}
use Rattle.aia_model.specs.ReachOf.{in_force_of, stage_in_force_of}
use Rattle.aia_model.specs.Flight.{flight}
use Rattle.aia_model.specs.Passes.{passes_of}
use Rattle.aia_model.specs.Notice.{look_saw}
use Rattle.aia_regs.specs.DomainRegisters.{domain_register_of}
use Rattle.aia_model.specs.Act.{newest}
use Rattle.aia_model.specs.SourceOf.{wire_of, enabled, target, pending, genmsi_waits}
use Rattle.aia_regs.specs.Top.{least_pair}
use Rattle.aia_model.specs.AddressOf.{addresses_of}
use Rattle.aia_model.specs.Sent.{all_senders}
use Rattle.aia_model.specs.Answer.{answer, answer_text, after}
use Rattle.aia_model.specs.AnswerText.{hex_digits}
use Rattle.aia_vectors.specs.Rows.{script_of}
use Rattle.aia_model.proofs.HistoryLemmas.{script_happens}
use Rattle.aia_model.proofs.PassesStandLemmas.{passes_stand}
use Rattle.aia_guest_vectors.specs.declared.aimed.TheConstants.{STOPPED_BETWEEN_AIMS}
use Rattle.aia_guest_vectors.proofs.aimed.a_script_stops_between_two_aims.Goals as goal

pub returns-clause-happens : goal.returns-clause-happens
returns-clause-happens c = script_happens (script_of STOPPED_BETWEEN_AIMS)

pub returns-clause-stand : goal.returns-clause-stand
returns-clause-stand c = passes_stand _ (script_happens (script_of STOPPED_BETWEEN_AIMS))

pub returns-clause-answers : goal.returns-clause-answers
unfolding word_of least_of packed ones number_at n32_at flag_at csr_at line_at reading select_by file_by majors_of home in_force_of
    stage_in_force_of flight passes_of look_saw domain_register_of newest wire_of enabled target pending least_pair addresses_of genmsi_waits
    all_senders answer after hex_digits answer_text
returns-clause-answers c = refl

pub returns-clause-leaves : goal.returns-clause-leaves
unfolding word_of least_of packed ones number_at n32_at flag_at csr_at line_at reading select_by file_by majors_of home in_force_of
    stage_in_force_of flight passes_of look_saw domain_register_of newest wire_of enabled target pending least_pair addresses_of genmsi_waits
    all_senders after
returns-clause-leaves c = refl

pub returns-clause-first_leads : goal.returns-clause-first_leads
unfolding word_of least_of packed ones number_at n32_at flag_at csr_at line_at reading select_by file_by majors_of home in_force_of
    stage_in_force_of flight passes_of look_saw domain_register_of newest wire_of enabled target pending least_pair addresses_of genmsi_waits
    all_senders after
returns-clause-first_leads c = refl

pub returns-clause-first_target : goal.returns-clause-first_target
unfolding word_of least_of packed ones number_at n32_at flag_at csr_at line_at reading select_by file_by majors_of home in_force_of
    stage_in_force_of flight passes_of look_saw domain_register_of newest wire_of enabled target pending least_pair addresses_of genmsi_waits
    all_senders after
returns-clause-first_target c = refl

pub returns-clause-second_leads : goal.returns-clause-second_leads
unfolding word_of least_of packed ones number_at n32_at flag_at csr_at line_at reading select_by file_by majors_of home in_force_of
    stage_in_force_of flight passes_of look_saw domain_register_of newest wire_of enabled target pending least_pair addresses_of genmsi_waits
    all_senders after
returns-clause-second_leads c = refl

pub returns-clause-second_target : goal.returns-clause-second_target
unfolding word_of least_of packed ones number_at n32_at flag_at csr_at line_at reading select_by file_by majors_of home in_force_of
    stage_in_force_of flight passes_of look_saw domain_register_of newest wire_of enabled target pending least_pair addresses_of genmsi_waits
    all_senders after
returns-clause-second_target c = refl
