-- What the premises of laws on images ask for, at the worked histories: each fact is computed.
use Rattle.std.proofs.Common.{◌≡◌, ◌≢◌, ℕ, ◌+◌, ◌/◌, zero, suc, ◌<◌, true, false, [], ◌∷◌, None, refl, ap, ◌∙◌, arith, subst}
use Rattle.std.specs.List.{AllByRecursion, Contains}
use Rattle.aia_word.specs.Sets.{word_of, least_of}
use Rattle.aia_word.specs.Packed.{packed, ones}
use Rattle.aia_model.specs.Reading.{number_at, n32_at, flag_at, csr_at, line_at, reading}
use Rattle.aia_model.specs.FileAfter.{select_by, file_by}
use Rattle.aia_model.specs.MajorOf.{majors_of}
use Rattle.aia_model.specs.HomeOf.{home}
use Rattle.aia_model.specs.Flight.{flight}
use Rattle.aia_model.specs.Passes.{passes_of}
use Rattle.aia_model.specs.ReachOf.{in_force_of, stage_in_force_of}
use Rattle.aia_model.specs.Notice.{look_saw}
use Rattle.aia_model.specs.Act.{newest}
use Rattle.aia_model.specs.SourceOf.{genmsi_waits}
use Rattle.aia_model.specs.Sent.{all_senders}
use Rattle.aia_model.specs.Answer.{answer, after}
use Rattle.aia_file.specs.InterruptFile.{InterruptFile}
use Rattle.aia_major.specs.VsMajor.{VsMajorState}
use Rattle.aia_vcpu.specs.Vms.{Vcpu, vcpu_of}
use Rattle.aia_vcpu.specs.declared.rest.Rest.TheVariants.{Parked}
use Rattle.aia_vcpu.specs.Home.Home.{InMemory}
use Rattle.aia_model.specs.declared.line.Line.TheVariants.{Save, LoadPart}
use Rattle.aia_model.specs.declared.part.Part.TheVariants as parts
use Rattle.aia_model.specs.GuestFile.{guest_select, guest_file}
use Rattle.aia_model.specs.Event.{History, has_machine, greatest_identity_of}
use Rattle.aia_model.specs.Forms.{part_fields}
use Rattle.aia_model.specs.Image.{GuestState, part_of, parts_in, part_loaded}
use Rattle.aia_model.specs.Printing.{FitsField}
use Rattle.aia_model.specs.StateOf.{state_of}
use Rattle.aia_model.specs.Refusal.{refusal}
use Rattle.aia_model.specs.Script.{history_of}
use Rattle.aia_uses.specs.declared.told.TheConstants.{TOLD}
use Rattle.aia_uses.specs.Worked.{made, asked, parked_asked}

four_there : (k : ℕ) → k < 4 → Contains (3 ∷ 2 ∷ 1 ∷ 0 ∷ []) k
four_there zero low = (3, omega arith, refl)
four_there (suc zero) low = (2, omega arith, refl)
four_there (suc (suc zero)) low = (1, omega arith, refl)
four_there (suc (suc (suc zero))) low = (0, omega arith, refl)
four_there (suc (suc (suc (suc k)))) low = absurd (omega (arith, low))

pub has_four : (x : GuestState) → x.file.n ≡ 63 → (k : ℕ) → k < parts_in ((x.file.n + 1) / 64) → Contains (3 ∷ 2 ∷ 1 ∷ 0 ∷ []) k
has_four x is k low = four_there k (subst (λ n. k < parts_in ((n + 1) / 64)) is low)

pub told_stands : has_machine (history_of TOLD.now) ≡ true
unfolding number_at n32_at flag_at csr_at line_at reading word_of least_of packed ones select_by file_by majors_of home flight passes_of
    in_force_of stage_in_force_of look_saw newest genmsi_waits all_senders answer after
told_stands = refl

pub told_greatest : greatest_identity_of (history_of TOLD.now) ≡ 63
unfolding number_at n32_at flag_at csr_at line_at reading word_of least_of packed ones select_by file_by majors_of home flight passes_of
    in_force_of stage_in_force_of look_saw newest genmsi_waits all_senders answer after
told_greatest = refl

pub save_allowed : refusal (history_of TOLD.now) (Save 0 0 3) ≡ None
unfolding number_at n32_at flag_at csr_at line_at reading word_of least_of packed ones select_by file_by majors_of home flight passes_of
    in_force_of stage_in_force_of look_saw newest genmsi_waits all_senders answer after
save_allowed = refl

pub last_part : part_of (state_of (history_of TOLD.now) (vcpu_of 0 0)) 3 ≡ parts.Word 0 2 2
unfolding number_at n32_at flag_at csr_at line_at reading word_of least_of packed ones select_by file_by majors_of home flight passes_of
    in_force_of stage_in_force_of look_saw newest genmsi_waits all_senders answer after
last_part = refl

pub told_n : (state_of (history_of TOLD.now) (vcpu_of 0 0)).file.n ≡ 63
unfolding number_at n32_at flag_at csr_at line_at reading word_of least_of packed ones select_by file_by majors_of home flight passes_of
    in_force_of stage_in_force_of look_saw newest genmsi_waits all_senders answer after
told_n = refl

pub last_told : 3 < parts_in (((state_of (history_of TOLD.now) (vcpu_of 0 0)).file.n + 1) / 64)
unfolding number_at n32_at flag_at csr_at line_at reading word_of least_of packed ones select_by file_by majors_of home flight passes_of
    in_force_of stage_in_force_of look_saw newest genmsi_waits all_senders answer after
last_told = omega arith

pub last_there : 3 < parts_in (((state_of asked (vcpu_of 0 0)).file.n + 1) / 64)
unfolding word_of least_of packed ones select_by file_by majors_of
last_there = omega arith

-- a state that is the one of the script has 1 pending
pub gives_one : {x : GuestState} → x ≡ state_of (history_of TOLD.now) (vcpu_of 0 0) → x.file.pending 1 ≡ true
unfolding number_at n32_at flag_at csr_at line_at reading word_of least_of packed ones select_by file_by majors_of home flight passes_of
    in_force_of stage_in_force_of look_saw newest genmsi_waits all_senders answer after
gives_one e = ap (λ state. state.file.pending 1) e

abbrev state : ℕ → InterruptFile → VsMajorState → GuestState
state select file majors = record { select = select; file = file; majors = majors }

pub same_parts : (h other : History) (g x : Vcpu) → guest_select h g ≡ guest_select other x → guest_file h g ≡ guest_file other x
    → majors_of h g ≡ majors_of other x → state_of h g ≡ state_of other x
same_parts h other g x select file majors =
    ap (λ s. state s (guest_file h g) (majors_of h g)) select
    ∙ ap (λ f. state (guest_select other x) f (majors_of h g)) file
    ∙ ap (λ m. state (guest_select other x) (guest_file other x) m) majors

pub is_parked : home made (vcpu_of 0 1) ≡ InMemory Parked
unfolding home
is_parked = refl

pub same_state : state_of asked (vcpu_of 0 0) ≡ state_of parked_asked (vcpu_of 0 0)
unfolding word_of least_of packed ones select_by file_by majors_of
same_state = refl

pub load_allowed : refusal made (LoadPart 0 1 (parts.Word 0 2 2)) ≡ None
unfolding word_of least_of packed ones select_by file_by majors_of home passes_of
load_allowed = refl

pub another : vcpu_of 0 1 ≢ vcpu_of 0 0
another e = let same : 1 ≡ 0 = ap (λ (g : Vcpu). g.vcpu) e in absurd (omega (arith, same))

pub loads_one : (part_loaded (parts.Word 0 2 2) (state_of made (vcpu_of 0 1))).file.pending 1 ≡ true
unfolding word_of least_of packed ones select_by file_by majors_of
loads_one = refl

pub none_there : (state_of made (vcpu_of 0 0)).file.pending 1 ≡ false
unfolding word_of least_of packed ones select_by file_by majors_of
none_there = refl

pub word_fits : AllByRecursion FitsField (part_fields (parts.Word 0 2 2))
word_fits = (tt, (omega arith, (omega arith, (omega arith, tt))))
