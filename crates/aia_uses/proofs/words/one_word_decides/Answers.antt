use Rattle.aia_word.specs.Sets.{word_of, least_of}
use Rattle.aia_word.specs.Packed.{packed, ones}
use Rattle.aia_model.specs.Reading.{number_at, n32_at, flag_at, csr_at, line_at, reading}
use Rattle.aia_model.specs.FileAfter.{select_by, file_by}
use Rattle.aia_model.specs.MajorOf.{majors_of}
use Rattle.aia_model.specs.HomeOf.{home}
use Rattle.aia_model.specs.Flight.{flight}
use Rattle.aia_model.specs.Passes.{passes_of}
use Rattle.aia_model.specs.ReachOf.{in_force_of, stage_in_force_of}
use Rattle.aia_model.specs.Notice.{look_saw}
use Rattle.aia_model.specs.Act.{newest}
use Rattle.aia_model.specs.SourceOf.{genmsi_waits}
use Rattle.aia_model.specs.Sent.{all_senders}
use Rattle.aia_model.specs.Answer.{answer, after}
use Rattle.aia_vcpu.specs.Vms.{vcpu_of}
use Rattle.aia_model.specs.FileOf.{SupervisorFile}
use Rattle.aia_model.specs.Script.{history_of}
use Rattle.aia_model.proofs.HistoryLemmas.{script_happens}
use Rattle.aia_laws.specs.Newest.{newest as newest_word}
use Rattle.aia_uses.specs.declared.told.TheConstants.{TOLD}
use Rattle.aia_uses.proofs.words.one_word_decides.Goals as goal

pub returns-clause-asked : goal.returns-clause-asked
unfolding number_at n32_at flag_at csr_at line_at reading word_of least_of packed ones select_by file_by majors_of home flight passes_of
    in_force_of stage_in_force_of look_saw newest genmsi_waits all_senders answer after newest_word
returns-clause-asked c = c.the_newest_word_decides_at_a_guest.ensures.pending (history_of TOLD.now) (vcpu_of 0 0) 1 (script_happens TOLD.now)

pub returns-clause-enabled : goal.returns-clause-enabled
unfolding number_at n32_at flag_at csr_at line_at reading word_of least_of packed ones select_by file_by majors_of home flight passes_of
    in_force_of stage_in_force_of look_saw newest genmsi_waits all_senders answer after newest_word
returns-clause-enabled c = c.the_newest_word_decides_at_a_guest.ensures.enabled (history_of TOLD.now) (vcpu_of 0 0) 1 (script_happens TOLD.now)

pub returns-clause-told : goal.returns-clause-told
unfolding number_at n32_at flag_at csr_at line_at reading word_of least_of packed ones select_by file_by majors_of home flight passes_of
    in_force_of stage_in_force_of look_saw newest genmsi_waits all_senders answer after newest_word
returns-clause-told c = c.the_newest_word_decides_at_a_host.ensures.pending (history_of TOLD.now) (SupervisorFile 0) 1 (script_happens TOLD.now)

pub returns-clause-untold : goal.returns-clause-untold
unfolding number_at n32_at flag_at csr_at line_at reading word_of least_of packed ones select_by file_by majors_of home flight passes_of
    in_force_of stage_in_force_of look_saw newest genmsi_waits all_senders answer after newest_word
returns-clause-untold c = c.the_newest_word_decides_at_a_host.ensures.enabled (history_of TOLD.now) (SupervisorFile 0) 1 (script_happens TOLD.now)
