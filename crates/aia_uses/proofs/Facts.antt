-- What the premises of laws ask for, at the worked histories: each fact is computed.
use Rattle.std.proofs.Common.{◌≡◌, ◌≢◌, ℕ, ◌≤◌, ◌%◌, ◌&&◌, true, false, Some, None, refl, arith}
use Rattle.std.proofs.lemmas.Bool.{false≢true}
use Rattle.aia_word.specs.Sets.{word_of, least_of}
use Rattle.aia_word.specs.Packed.{packed, ones}
use Rattle.aia_word.specs.Top.{lets_through}
use Rattle.aia_regs.specs.declared.access.Csr.TheVariants.{Reg, Topei}
use Rattle.aia_regs.specs.declared.access.Op.TheVariants as ops
use Rattle.aia_file.specs.InterruptFile.{top_of}
use Rattle.aia_vcpu.specs.Vms.{vcpu_of, is_vcpu}
use Rattle.aia_regs.specs.declared.address_map.TheConstants.{PAGE}
use Rattle.aia_regs.specs.Request.{requested}
use Rattle.aia_regs.specs.BitUpdate.{names}
use Rattle.aia_vcpu.specs.Routes.{is_at_fence}
use Rattle.std.specs.List.{list_any}
use Rattle.aia_model.specs.Event.{greatest_identity_of}
use Rattle.aia_model.specs.Event.Event.{Accepted}
use Rattle.aia_model.specs.declared.line.Line.TheVariants as lines
use Rattle.aia_model.specs.FileAfter.{select_by, file_by}
use Rattle.aia_model.specs.GuestFile.{sent_to, guest_file, guest_select}
use Rattle.aia_model.specs.MajorOf.{majors_of}
use Rattle.aia_model.specs.HomeOf.{home}
use Rattle.aia_model.specs.Flight.{flight}
use Rattle.aia_model.specs.Passes.{passes_of}
use Rattle.aia_model.specs.ReachOf.{in_force_of, stage_in_force_of}
use Rattle.aia_model.specs.Notice.{noticed, look_saw}
use Rattle.aia_model.specs.Act.{newest}
use Rattle.aia_model.specs.SourceOf.{genmsi_waits}
use Rattle.aia_model.specs.Sent.{all_senders}
use Rattle.aia_model.specs.Refusal.{refusal, serves}
use Rattle.aia_model.specs.Answer.{answer, after}
use Rattle.aia_laws.specs.Requests.{forwards_to}
use Rattle.aia_uses.specs.Worked.{enabled, asked, selected, parked_asked, entered, in_flight, moving, parked}

-- ---- requests

pub msi_taken : refusal enabled (lines.Msi 0 0x28000000 1) ≡ None
unfolding word_of least_of packed ones select_by file_by majors_of home flight passes_of in_force_of stage_in_force_of look_saw newest
    genmsi_waits all_senders answer after
msi_taken = refl

pub msi_alone : forwards_to enabled (lines.Msi 0 0x28000000 1) (vcpu_of 0 0) ≡ false
unfolding word_of least_of packed ones select_by file_by majors_of home flight passes_of in_force_of stage_in_force_of look_saw newest
    genmsi_waits all_senders answer after
msi_alone = refl

pub was_silent : (guest_file enabled (vcpu_of 0 0)).pending 1 ≡ false
unfolding word_of least_of packed ones select_by file_by majors_of home flight passes_of in_force_of stage_in_force_of look_saw newest
    genmsi_waits all_senders answer after
was_silent = refl

pub msi_asks : (guest_file (after enabled (lines.Msi 0 0x28000000 1)) (vcpu_of 0 0)).pending 1 ≡ true
unfolding word_of least_of packed ones select_by file_by majors_of home flight passes_of in_force_of stage_in_force_of look_saw newest
    genmsi_waits all_senders answer after
msi_asks = refl

pub is_asked : (guest_file asked (vcpu_of 0 0)).pending 1 ≡ true
unfolding word_of least_of packed ones select_by file_by majors_of home flight passes_of in_force_of stage_in_force_of look_saw newest
    genmsi_waits all_senders answer after
is_asked = refl

pub claim_clears : (guest_file (after asked (lines.GuestCsr 0 0 Topei (ops.Write 0))) (vcpu_of 0 0)).pending 1 ≡ false
unfolding word_of least_of packed ones select_by file_by majors_of home flight passes_of in_force_of stage_in_force_of look_saw newest
    genmsi_waits all_senders answer after
claim_clears = refl

pub still_asked : (guest_file selected (vcpu_of 0 0)).pending 1 ≡ true
unfolding word_of least_of packed ones select_by file_by majors_of home flight passes_of in_force_of stage_in_force_of look_saw newest
    genmsi_waits all_senders answer after
still_asked = refl

pub write_clears : (guest_file (after selected (lines.GuestCsr 0 0 Reg (ops.Clear 2))) (vcpu_of 0 0)).pending 1 ≡ false
unfolding word_of least_of packed ones select_by file_by majors_of home flight passes_of in_force_of stage_in_force_of look_saw newest
    genmsi_waits all_senders answer after
write_clears = refl

-- ---- claims

pub claim_allowed : refusal asked (lines.GuestCsr 0 0 Topei (ops.Write 0)) ≡ None
unfolding word_of least_of packed ones select_by file_by majors_of home flight passes_of in_force_of stage_in_force_of look_saw newest
    genmsi_waits all_senders answer after
claim_allowed = refl

pub empty_claim_allowed : refusal enabled (lines.GuestCsr 0 0 Topei (ops.Write 0)) ≡ None
unfolding word_of least_of packed ones select_by file_by majors_of home flight passes_of in_force_of stage_in_force_of look_saw newest
    genmsi_waits all_senders answer after
empty_claim_allowed = refl

pub one_in_file : 1 ≤ (guest_file asked (vcpu_of 0 0)).n
unfolding word_of least_of packed ones select_by file_by majors_of home flight passes_of in_force_of stage_in_force_of look_saw newest
    genmsi_waits all_senders answer after
one_in_file = omega arith

pub is_enabled : (guest_file asked (vcpu_of 0 0)).enabled 1 ≡ true
unfolding word_of least_of packed ones select_by file_by majors_of home flight passes_of in_force_of stage_in_force_of look_saw newest
    genmsi_waits all_senders answer after
is_enabled = refl

pub all_pass : lets_through (guest_file asked (vcpu_of 0 0)).threshold 1 ≡ true
unfolding word_of least_of packed ones select_by file_by majors_of home flight passes_of in_force_of stage_in_force_of look_saw newest
    genmsi_waits all_senders answer after
all_pass = refl

pub none_asked : (i : ℕ) → (guest_file enabled (vcpu_of 0 0)).pending i ≢ true
unfolding word_of least_of packed ones select_by file_by majors_of home flight passes_of in_force_of stage_in_force_of look_saw newest
    genmsi_waits all_senders answer after
none_asked i e = false≢true e

-- ---- what a virtual hart reads

pub read_allowed : refusal asked (lines.GuestCsr 0 0 Topei ops.Read) ≡ None
unfolding word_of least_of packed ones select_by file_by majors_of home flight passes_of in_force_of stage_in_force_of look_saw newest
    genmsi_waits all_senders answer after
read_allowed = refl

pub top_asked : top_of (guest_file asked (vcpu_of 0 0)) ≡ Some 1
unfolding word_of least_of packed ones select_by file_by majors_of home flight passes_of in_force_of stage_in_force_of look_saw newest
    genmsi_waits all_senders answer after
top_asked = refl

pub serves_it : serves (home asked (vcpu_of 0 0)) Topei ≡ true
unfolding word_of least_of packed ones select_by file_by majors_of home flight passes_of in_force_of stage_in_force_of look_saw newest
    genmsi_waits all_senders answer after
serves_it = refl

pub serves_in_memory : serves (home entered (vcpu_of 0 0)) Topei ≡ true
unfolding word_of least_of packed ones select_by file_by majors_of home flight passes_of in_force_of stage_in_force_of look_saw newest
    genmsi_waits all_senders answer after
serves_in_memory = refl

pub same_file : guest_file entered (vcpu_of 0 0) ≡ guest_file asked (vcpu_of 0 0)
unfolding word_of least_of packed ones select_by file_by majors_of home flight passes_of in_force_of stage_in_force_of look_saw newest
    genmsi_waits all_senders answer after
same_file = refl

pub same_select : guest_select entered (vcpu_of 0 0) ≡ guest_select asked (vcpu_of 0 0)
unfolding word_of least_of packed ones select_by file_by majors_of home flight passes_of in_force_of stage_in_force_of look_saw newest
    genmsi_waits all_senders answer after
same_select = refl

pub asked_when_parked : (guest_file parked_asked (vcpu_of 0 0)).pending 1 ≡ true
unfolding word_of least_of packed ones select_by file_by majors_of home flight passes_of in_force_of stage_in_force_of look_saw newest
    genmsi_waits all_senders answer after
asked_when_parked = refl

pub asked_when_entered : (guest_file entered (vcpu_of 0 0)).pending 1 ≡ true
unfolding word_of least_of packed ones select_by file_by majors_of home flight passes_of in_force_of stage_in_force_of look_saw newest
    genmsi_waits all_senders answer after
asked_when_entered = refl

-- ---- moves

pub none_at_fence : (is_at_fence (home moving (vcpu_of 0 0)) && list_any (λ s. is_vcpu (vcpu_of 0 0) (sent_to 0 s)) (flight moving 0)) ≡ false
unfolding word_of least_of packed ones select_by file_by majors_of home flight passes_of in_force_of stage_in_force_of look_saw newest
    genmsi_waits all_senders answer after
none_at_fence = refl

pub asked_while_moving : (guest_file moving (vcpu_of 0 0)).pending 1 ≡ true
unfolding word_of least_of packed ones select_by file_by majors_of home flight passes_of in_force_of stage_in_force_of look_saw newest
    genmsi_waits all_senders answer after
asked_while_moving = refl

pub enabled_while_moving : (guest_file moving (vcpu_of 0 0)).enabled 1 ≡ true
unfolding word_of least_of packed ones select_by file_by majors_of home flight passes_of in_force_of stage_in_force_of look_saw newest
    genmsi_waits all_senders answer after
enabled_while_moving = refl

pub wire_alone : forwards_to asked (lines.Wire 1 true) (vcpu_of 0 0) ≡ false
unfolding word_of least_of packed ones select_by file_by majors_of home flight passes_of in_force_of stage_in_force_of look_saw newest
    genmsi_waits all_senders answer after
wire_alone = refl

pub fence_allowed : refusal in_flight (lines.Step 0 0) ≡ None
unfolding word_of least_of packed ones select_by file_by majors_of home flight passes_of in_force_of stage_in_force_of look_saw newest
    genmsi_waits all_senders answer after
fence_allowed = refl

pub at_fence : is_at_fence (home in_flight (vcpu_of 0 0)) ≡ true
unfolding word_of least_of packed ones select_by file_by majors_of home flight passes_of in_force_of stage_in_force_of look_saw newest
    genmsi_waits all_senders answer after
at_fence = refl

pub one_in_flight : list_any (λ s. is_vcpu (vcpu_of 0 0) (sent_to 0 s) && names (requested (greatest_identity_of in_flight) (s.addr % PAGE) s.value)
    1) (flight in_flight 0) ≡ true
unfolding word_of least_of packed ones select_by file_by majors_of home flight passes_of in_force_of stage_in_force_of look_saw newest
    genmsi_waits all_senders answer after
one_in_flight = refl

pub silent_before : (guest_file in_flight (vcpu_of 0 0)).pending 1 ≡ false
unfolding word_of least_of packed ones select_by file_by majors_of home flight passes_of in_force_of stage_in_force_of look_saw newest
    genmsi_waits all_senders answer after
silent_before = refl

pub asked_after : (guest_file (after in_flight (lines.Step 0 0)) (vcpu_of 0 0)).pending 1 ≡ true
unfolding word_of least_of packed ones select_by file_by majors_of home flight passes_of in_force_of stage_in_force_of look_saw newest
    genmsi_waits all_senders answer after
asked_after = refl

-- ---- notices

pub sends_one : noticed parked (Accepted (lines.Msi 0 0x28000000 1)) ≡ Some (vcpu_of 0 0)
unfolding word_of least_of packed ones select_by file_by majors_of home flight passes_of in_force_of stage_in_force_of look_saw newest
    genmsi_waits all_senders answer after
sends_one = refl
