use Rattle.std.proofs.Common.{refl}
use Rattle.aia_word.specs.Sets.{word_of, least_of}
use Rattle.aia_word.specs.Packed.{packed, ones}
use Rattle.aia_model.specs.Reading.{number_at, n32_at, flag_at, csr_at, line_at, reading}
use Rattle.aia_model.specs.FileAfter.{select_by, file_by}
use Rattle.aia_model.specs.MajorOf.{majors_of}
use Rattle.aia_model.specs.HomeOf.{home}
use Rattle.aia_model.specs.Flight.{flight}
use Rattle.aia_model.specs.Passes.{passes_of}
use Rattle.aia_model.specs.ReachOf.{in_force_of, stage_in_force_of}
use Rattle.aia_model.specs.Notice.{look_saw}
use Rattle.aia_model.specs.Act.{newest}
use Rattle.aia_model.specs.SourceOf.{genmsi_waits}
use Rattle.aia_model.specs.Sent.{all_senders}
use Rattle.aia_model.specs.Answer.{answer, after}
use Rattle.aia_vcpu.specs.Vms.{vcpu_of}
use Rattle.aia_model.specs.Script.{history_of}
use Rattle.aia_model.proofs.HistoryLemmas.{script_happens}
use Rattle.aia_laws.specs.Told.{cleared_since, cleared_since_notice}
use Rattle.aia_uses.specs.declared.told.TheConstants.{TOLD}
use Rattle.aia_uses.proofs.told.the_host_is_told_of_one.Goals as goal

pub returns-clause-sent : goal.returns-clause-sent
unfolding number_at n32_at flag_at csr_at line_at reading word_of least_of packed ones select_by file_by majors_of home flight passes_of
    in_force_of stage_in_force_of look_saw newest genmsi_waits all_senders answer after
returns-clause-sent c = c.no_notice_is_lost.ensures.sent (history_of TOLD.now) (vcpu_of 0 0) 1 (script_happens TOLD.now) refl refl

pub returns-clause-told : goal.returns-clause-told
unfolding number_at n32_at flag_at csr_at line_at reading word_of least_of packed ones select_by file_by majors_of home flight passes_of
    in_force_of stage_in_force_of look_saw newest genmsi_waits all_senders answer after
returns-clause-told c = c.no_notice_is_lost.ensures.told (history_of TOLD.now) (vcpu_of 0 0) 1 (script_happens TOLD.now) refl refl

pub returns-clause-newest : goal.returns-clause-newest
unfolding number_at n32_at flag_at csr_at line_at reading word_of least_of packed ones select_by file_by majors_of home flight passes_of
    in_force_of stage_in_force_of look_saw newest genmsi_waits all_senders answer after cleared_since_notice
returns-clause-newest c = c.the_host_sees_a_notice_until_it_clears_it.ensures.newest (history_of TOLD.now) (vcpu_of 0 0) 1 (script_happens TOLD.now)
    refl refl refl

pub returns-clause-since : goal.returns-clause-since
unfolding number_at n32_at flag_at csr_at line_at reading word_of least_of packed ones select_by file_by majors_of home flight passes_of
    in_force_of stage_in_force_of look_saw newest genmsi_waits all_senders answer after cleared_since
returns-clause-since c = c.the_host_sees_a_notice_until_it_clears_it.ensures.since (history_of TOLD.now) (vcpu_of 0 0) 1 (script_happens TOLD.now)
    refl refl refl
