use Rattle.std.proofs.Common.{true, refl}
use Rattle.aia_word.specs.Sets.{word_of, least_of}
use Rattle.aia_word.specs.Packed.{packed, ones}
use Rattle.aia_regs.specs.DomainRegisters.{domain_register_of}
use Rattle.aia_regs.specs.Top.{least_pair}
use Rattle.aia_model.specs.Reading.{number_at, n32_at, flag_at, csr_at, line_at, reading}
use Rattle.aia_model.specs.FileAfter.{select_by, file_by}
use Rattle.aia_model.specs.MajorOf.{majors_of}
use Rattle.aia_model.specs.HomeOf.{home}
use Rattle.aia_model.specs.ReachOf.{in_force_of, stage_in_force_of}
use Rattle.aia_model.specs.Flight.{flight}
use Rattle.aia_model.specs.Passes.{passes_of}
use Rattle.aia_model.specs.Notice.{look_saw}
use Rattle.aia_model.specs.Act.{newest}
use Rattle.aia_model.specs.SourceOf.{wire_of, enabled, target, pending, genmsi_waits}
use Rattle.aia_model.specs.AddressOf.{addresses_of}
use Rattle.aia_model.specs.Sent.{all_senders}
use Rattle.aia_model.specs.Answer.{after}
use Rattle.aia_vcpu.specs.Vms.{vcpu_of}
use Rattle.aia_model.specs.declared.line.Line.TheVariants.{Wire}
use Rattle.aia_model.specs.Script.{history_of}
use Rattle.aia_model.proofs.HistoryLemmas.{script_happens}
use Rattle.aia_uses.specs.declared.forwards.TheConstants.{PASSED}
use Rattle.aia_uses.specs.Worked.{forward}
use Rattle.aia_uses.proofs.ForwardFacts.{wire_allowed, is_sent, is_passed}
use Rattle.aia_uses.proofs.PassedFacts.{only_told, told_or_lands, comes, passed_stands, was_silent, is_asked}
use Rattle.aia_uses.proofs.passed.one_comes_by_a_wire.Goals as goal

pub returns-clause-unasked : goal.returns-clause-unasked
returns-clause-unasked c =
    let is = only_told (history_of PASSED.now) (Wire 1 true) (vcpu_of 0 0) 5
    (c.none_comes_unasked_where_sources_are_passed.ensures.unasked (history_of PASSED.now) (Wire 1 true) (vcpu_of 0 0) 5
    passed_stands refl was_silent is_asked).1 in
    (is.1, is.5)

pub returns-clause-every_line : goal.returns-clause-every_line
returns-clause-every_line c =
    let is = comes (history_of PASSED.now) (Wire 1 true) (vcpu_of 0 0) 5
    (told_or_lands (history_of PASSED.now) (Wire 1 true) (vcpu_of 0 0) 5
    (c.none_comes_unasked_where_sources_are_passed.ensures.every_line (history_of PASSED.now) (Wire 1 true) (vcpu_of 0 0) 5
    passed_stands was_silent is_asked).1) in
    (is.1, is.5)

pub returns-clause-forwarded : goal.returns-clause-forwarded
unfolding word_of least_of packed ones number_at n32_at flag_at csr_at line_at reading select_by file_by majors_of home in_force_of
    stage_in_force_of flight passes_of look_saw domain_register_of newest wire_of enabled target pending least_pair addresses_of genmsi_waits
    all_senders after
returns-clause-forwarded c =
    c.none_comes_unasked_where_sources_are_passed.ensures.forwarded (history_of PASSED.now) (Wire 1 true) (vcpu_of 0 0) 5
    (script_happens PASSED.now) passed_stands wire_allowed
    (record { msi = forward; p = 0; sent = is_sent; passed = is_passed; to = refl; identity = refl })
