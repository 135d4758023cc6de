-- What a forward is, spelled out; and what the worked script has pending before and after one.
use Rattle.std.proofs.Common.{◌≡◌, ◌≢◌, ◌⊎◌, ◌∙◌, ℕ, true, false, Option, Some, None, is_some, refl, sym, ap, inl, inr}
use Rattle.std.proofs.lemmas.Bool.{false≢true}
use Rattle.aia_word.specs.Sets.{word_of, least_of}
use Rattle.aia_word.specs.Packed.{packed, ones}
use Rattle.aia_regs.specs.DomainRegisters.{domain_register_of}
use Rattle.aia_regs.specs.Top.{least_pair}
use Rattle.aia_vcpu.specs.Vms.{Vcpu, vcpu_of}
use Rattle.aia_model.specs.declared.line.Line.{Line}
use Rattle.aia_model.specs.declared.line.Line.TheVariants.{Wire}
use Rattle.aia_model.specs.Reading.{number_at, n32_at, flag_at, csr_at, line_at, reading}
use Rattle.aia_model.specs.Event.{History, has_machine}
use Rattle.aia_model.specs.FileAfter.{select_by, file_by}
use Rattle.aia_model.specs.MajorOf.{majors_of}
use Rattle.aia_model.specs.HomeOf.{home}
use Rattle.aia_model.specs.ReachOf.{in_force_of, stage_in_force_of}
use Rattle.aia_model.specs.Flight.{flight}
use Rattle.aia_model.specs.Passes.{passes_of, passed_by}
use Rattle.aia_model.specs.Notice.{look_saw}
use Rattle.aia_model.specs.Act.{newest}
use Rattle.aia_model.specs.SourceOf.{wire_of, enabled, target, pending, genmsi_waits}
use Rattle.aia_model.specs.AddressOf.{addresses_of}
use Rattle.aia_model.specs.Sent.{all_senders}
use Rattle.aia_model.specs.GuestFile.{guest_file}
use Rattle.aia_model.specs.Answer.{after}
use Rattle.aia_model.specs.Script.{history_of}
use Rattle.aia_isolation.specs.Forwarded.{ForwardsAs}
use Rattle.aia_uses.specs.declared.forwards.TheConstants.{PASSED}
use Rattle.aia_uses.specs.Passed.{IsForwarded}
use Rattle.aia_uses.specs.Worked.{in_flight}

pub told : (h : History) (line : Line) (g : Vcpu) (i : ℕ) → ForwardsAs h line g i → IsForwarded h line g i
told h line g i is = (is.msi, is.p, is.sent, is.passed, is.to, is.identity)

pub only_told : (h : History) (line : Line) (g : Vcpu) (i : ℕ) → ⊥ ⊎ ForwardsAs h line g i → IsForwarded h line g i
only_told h line g i (inl void) = absurd void
only_told h line g i (inr is) = told h line g i is

pub asked_or_told : {A : Type 0} (h : History) (line : Line) (g : Vcpu) (i : ℕ) → A ⊎ ForwardsAs h line g i → A ⊎ IsForwarded h line g i
asked_or_told h line g i (inl asked) = inl asked
asked_or_told h line g i (inr is) = inr (told h line g i is)

pub told_or_lands : {L : Type 0} (h : History) (line : Line) (g : Vcpu) (i : ℕ) → ⊥ ⊎ (ForwardsAs h line g i ⊎ L) → IsForwarded h line g i ⊎ L
told_or_lands h line g i (inl void) = absurd void
told_or_lands h line g i (inr (inl is)) = inl (told h line g i is)
told_or_lands h line g i (inr (inr lands)) = inr lands

pub told_or_asked : {F B : Type 0} → F ⊎ ((true ≡ true) × B) → F ⊎ B
told_or_asked (inl is) = inl is
told_or_asked (inr lands) = inr lands.1

pub comes : {B : Type 0} (h : History) (line : Line) (g : Vcpu) (i : ℕ) → IsForwarded h line g i ⊎ ((false ≡ true) × B) → IsForwarded h line g i
comes h line g i (inl is) = is
comes h line g i (inr lands) = absurd (false≢true lands.0)

pub passed_stands : has_machine (history_of PASSED.now) ≡ true
unfolding word_of least_of packed ones number_at n32_at flag_at csr_at line_at reading after all_senders genmsi_waits newest passes_of
    domain_register_of pending home flight addresses_of
passed_stands = refl

pub was_silent : (guest_file (history_of PASSED.now) (vcpu_of 0 0)).pending 5 ≡ false
unfolding word_of least_of packed ones number_at n32_at flag_at csr_at line_at reading select_by file_by majors_of home in_force_of
    stage_in_force_of flight passes_of look_saw domain_register_of newest wire_of enabled target pending least_pair addresses_of genmsi_waits
    all_senders after
was_silent = refl

pub is_asked : (guest_file (after (history_of PASSED.now) (Wire 1 true)) (vcpu_of 0 0)).pending 5 ≡ true
unfolding word_of least_of packed ones number_at n32_at flag_at csr_at line_at reading select_by file_by majors_of home in_force_of
    stage_in_force_of flight passes_of look_saw domain_register_of newest wire_of enabled target pending least_pair addresses_of genmsi_waits
    all_senders after
is_asked = refl

none≢some : {p : ℕ} → None ≢ Some p
none≢some e = false≢true (ap is_some e)

none_passed : (source : Option ℕ) → passed_by in_flight source ≡ None
unfolding passes_of least_of
none_passed None = refl
none_passed (Some s) = refl

-- no source is passed in the history before the fence, so none is forwarded
pub lands_there : {L : Type 0} (line : Line) (g : Vcpu) (i : ℕ) → IsForwarded in_flight line g i ⊎ L → L
lands_there line g i (inl is) = absurd (none≢some (sym (none_passed is.0.source) ∙ is.3))
lands_there line g i (inr lands) = lands
