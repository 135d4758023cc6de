-- What is saved of a virtual hart may be loaded: as a part, and as text.
use Rattle.std.proofs.Common.{◌≡◌, ℕ, zero, suc, ◌+◌, ◌*◌, ◌/◌, ◌^◌, ◌<◌, Bool, true, false, not, ◌&&◌, ◌||◌, nat_lt, None, refl, sym, ap, subst, ◌∙◌, arith}
use Rattle.std.specs.Int.{is_in_range}
use Rattle.std.specs.List.{AllByRecursion}
use Rattle.std.proofs.lemmas.Bool.{and_from, eq-eqb, lt-ltb, le-leb, ltb-true, false≢true}
use Rattle.std.proofs.lemmas.Bool.Decides.{nat_tests}
use Rattle.aia_word.specs.Sets.{has_bit, word_of}
use Rattle.aia_word.proofs.SetLemmas.{has_bit-word_of, word_of-lt}
use Rattle.aia_regs.specs.Fields.{bit_number}
use Rattle.aia_file.specs.InterruptFile.{is_greatest_identity}
use Rattle.aia_major.specs.VsMajor.{majors_word, fits_hvip, fits_hviprio1, fits_hvictl}
use Rattle.aia_major.proofs.RegisterLemmas.{majors_word-bit}
use Rattle.aia_vcpu.specs.Vms.{Vcpu, vcpu_of}
use Rattle.aia_model.specs.declared.line.Line.TheVariants.{Save, LoadPart}
use Rattle.aia_model.specs.declared.part.Part.{Part}
use Rattle.aia_model.specs.declared.part.Part.TheVariants as parts
use Rattle.aia_model.specs.declared.parsed.Parsed.TheVariants as parsed
use Rattle.aia_model.specs.declared.answer.Answer.TheVariants as answers
use Rattle.aia_model.specs.Event.{History, has_machine, greatest_identity_of, file_words}
use Rattle.aia_model.specs.Forms.{part_fields, IsListed}
use Rattle.aia_model.specs.AnswerText.{part_text}
use Rattle.aia_model.specs.Printing.{line_text, FitsField}
use Rattle.aia_model.specs.Reading.{reading}
use Rattle.aia_model.specs.Image.{GuestState, part_of, parts_in, is_loadable}
use Rattle.aia_model.specs.StateOf.{state_of}
use Rattle.aia_model.specs.Histories.{IsHistory}
use Rattle.aia_model.specs.Vms.{has_vcpu}
use Rattle.aia_vcpu.specs.declared.rest.Rest.TheVariants.{Parked}
use Rattle.aia_vcpu.specs.Home.Home.{InMemory}
use Rattle.aia_model.specs.HomeOf.{home}
use Rattle.aia_model.specs.Refusal.{refusal}
use Rattle.aia_model.specs.Answer.{answer}
use Rattle.aia_model.proofs.AnswerLemmas.{answered}
use Rattle.aia_model.proofs.Printed.{printed_read}
use Rattle.aia_model.proofs.RefusalLemmas.{save_allowed}
use Rattle.aia_laws.specs.Images.{IsState, part_count, load_text}
use Rattle.aia_model.proofs.GreatestLemmas.{guest_greatest}
use Rattle.aia_laws.proofs.MachineLemmas.{machine_of_vcpu}
use Rattle.aia_laws.proofs.ReachedLemmas.{is_state}

-- ---- as a part

-- a set of majors is shown as one that may be held
pub word_held : (members : ℕ → Bool) → fits_hvip (majors_word members) ≡ true
word_held members =
    eq-eqb _ _ (rw (majors_word-bit members 1, majors_word-bit members 5, majors_word-bit members 9, majors_word-bit members 13) refl)

no_zero : (members : ℕ → Bool) (n : ℕ) → ((i : ℕ) → members i ≡ true → is_in_range 1 n i ≡ true) → members 0 ≡ false
no_zero members n fits = by_test (members 0) refl
  where
    by_test : (b : Bool) → members 0 ≡ b → members 0 ≡ false
    by_test false e = e
    by_test true e = absurd (false≢true (fits 0 e))

first_bit : (members : ℕ → Bool) (n : ℕ) → ((i : ℕ) → members i ≡ true → is_in_range 1 n i ≡ true) → not (has_bit (word_of members 0 64) 0) ≡ true
first_bit members n fits = ap not (has_bit-word_of members 0 64 0 (omega arith) ∙ no_zero members n fits)

no_identity_zero : (x : GuestState) (w : ℕ) → IsState x
    → (nat_lt 0 w || (not (has_bit (word_of x.file.pending (64 * w) 64) 0) && not (has_bit (word_of x.file.enabled (64 * w) 64) 0))) ≡ true
no_identity_zero x zero is = and_from _ _ (first_bit x.file.pending x.file.n is.pending) (first_bit x.file.enabled x.file.n is.enabled)
no_identity_zero x (suc w) is = ap (λ b. b || (not (has_bit (word_of x.file.pending (64 * suc w) 64) 0) && not
    (has_bit (word_of x.file.enabled (64 * suc w) 64) 0))) (lt-ltb 0 (suc w) (omega arith))

pub part_loadable : (x : GuestState) (k : ℕ) → IsState x → k < part_count x → is_loadable x.file.n (part_of x k) ≡ true
part_loadable x zero is low =
    and_from _ _ (and_from _ _ (eq-eqb x.file.n x.file.n refl) (le-leb x.file.threshold x.file.n is.threshold)) (lt-ltb x.select 0x1000 is.select)
part_loadable x (suc zero) is low = and_from _ _ (word_held x.majors.injected) (word_held x.majors.enabled)
part_loadable x (suc (suc zero)) is low = and_from _ _ is.hviprio1 is.hvictl
part_loadable x (suc (suc (suc w))) is low = and_from _ _ (lt-ltb w ((x.file.n + 1) / 64) (omega (arith, low))) (no_identity_zero x w is)

-- ---- as text

small_identity : (n : ℕ) → is_greatest_identity n ≡ true → n < 2 ^ 32
small_identity n e = grind (arith, nat_tests)

small_bit : (b : Bool) → bit_number b < 2
small_bit true = omega arith
small_bit false = omega arith

small_majors : (members : ℕ → Bool) → majors_word members < 2 ^ 64
small_majors members = omega (arith, small_bit (members 1), small_bit (members 5), small_bit (members 9), small_bit (members 13))

small_hviprio1 : (v : ℕ) → fits_hviprio1 v ≡ true → v < 2 ^ 64
small_hviprio1 v e = grind (arith, nat_tests)

small_hvictl : (v : ℕ) → fits_hvictl v ≡ true → v < 2 ^ 64
small_hvictl v e = grind (arith, nat_tests)

pub part_fits : (x : GuestState) (k : ℕ) → IsState x → k < part_count x → AllByRecursion FitsField (part_fields (part_of x k))
part_fits x zero is low =
    let n : x.file.n < 2 ^ 32 = small_identity x.file.n is.greatest in
    (tt, (omega arith, (n, (tt, (omega (arith, is.threshold, n), (omega (arith, is.select), tt))))))
part_fits x (suc zero) is low = (tt, (small_majors x.majors.injected, (small_majors x.majors.enabled, tt)))
part_fits x (suc (suc zero)) is low = (tt, (small_hviprio1 x.majors.hviprio1 is.hviprio1, (small_hvictl x.majors.hvictl is.hvictl, tt)))
part_fits x (suc (suc (suc w))) is low =
    let n : x.file.n < 2 ^ 32 = small_identity x.file.n is.greatest in
    (tt, (omega (arith, low, n), (word_of-lt x.file.pending (64 * w) 64, (word_of-lt x.file.enabled (64 * w) 64, tt))))

load_listed : (vm vcpu : ℕ) (part : Part) → IsListed (LoadPart vm vcpu part)
load_listed vm vcpu (parts.Image version n delivery threshold select) = (tt, (tt, (tt, (tt, (tt, (tt, (tt, (tt, (tt, tt)))))))))
load_listed vm vcpu (parts.Majors injected enabled) = (tt, (tt, (tt, (tt, (tt, (tt, tt))))))
load_listed vm vcpu (parts.Prio hviprio hvictl) = (tt, (tt, (tt, (tt, (tt, (tt, tt))))))
load_listed vm vcpu (parts.Word w pending enable) = (tt, (tt, (tt, (tt, (tt, (tt, (tt, tt)))))))

-- the text of a part after that of the virtual hart is the printed line
pub load_printed : (x : Vcpu) (part : Part) → load_text x (part_text part) ≡ line_text (LoadPart x.vm x.vcpu part)
unfolding line_text
load_printed x (parts.Image version n delivery threshold select) = refl
load_printed x (parts.Majors injected enabled) = refl
load_printed x (parts.Prio hviprio hvictl) = refl
load_printed x (parts.Word w pending enable) = refl

pub load_read : (x : Vcpu) (part : Part) → x.vm < 2 ^ 64 → x.vcpu < 2 ^ 64 → AllByRecursion FitsField (part_fields part)
    → reading (load_text x (part_text part)) ≡ parsed.Line (LoadPart x.vm x.vcpu part)
load_read x part vm vcpu fits = ap reading (load_printed x part)
    ∙ printed_read (LoadPart x.vm x.vcpu part) (load_listed x.vm x.vcpu part) (tt, (vm, (vcpu, fits)))

-- ---- of one that is saved

-- a part that may be loaded is loaded where a virtual hart is parked
load_accepted : (h : History) (vm vcpu : ℕ) (part : Part) → has_machine h ≡ true → has_vcpu h (vcpu_of vm vcpu) ≡ true
    → home h (vcpu_of vm vcpu) ≡ InMemory Parked → is_loadable (greatest_identity_of h) part ≡ true → refusal h (LoadPart vm vcpu part) ≡ None
load_accepted h vm vcpu part stands there parked may = rw (stands, there, may, parked) refl

saved_low : (h : History) (vm vcpu k : ℕ) → refusal h (Save vm vcpu k) ≡ None → k < part_count (state_of h (vcpu_of vm vcpu))
saved_low h vm vcpu k e =
    subst (λ n. k < parts_in ((n + 1) / 64)) (sym (guest_greatest h (vcpu_of vm vcpu)))
    (ltb-true k (parts_in (file_words h)) (save_allowed h vm vcpu k e).fits)

saved_state : (h : History) (vm vcpu k : ℕ) → IsHistory h → refusal h (Save vm vcpu k) ≡ None → IsState (state_of h (vcpu_of vm vcpu))
saved_state h vm vcpu k good e = is_state h (vcpu_of vm vcpu) good (machine_of_vcpu h (vcpu_of vm vcpu) good (save_allowed h vm vcpu k e).there)

pub saved_answer : (h : History) (vm vcpu k : ℕ) → refusal h (Save vm vcpu k) ≡ None
    → answer h (Save vm vcpu k) ≡ answers.Part (part_of (state_of h (vcpu_of vm vcpu)) k)
saved_answer h vm vcpu k e = answered h (Save vm vcpu k) None e

pub saved_loadable : (h : History) (vm vcpu k : ℕ) → IsHistory h → refusal h (Save vm vcpu k) ≡ None
    → is_loadable (greatest_identity_of h) (part_of (state_of h (vcpu_of vm vcpu)) k) ≡ true
saved_loadable h vm vcpu k good e =
    subst (λ n. is_loadable n (part_of (state_of h (vcpu_of vm vcpu)) k) ≡ true) (guest_greatest h (vcpu_of vm vcpu))
    (part_loadable (state_of h (vcpu_of vm vcpu)) k (saved_state h vm vcpu k good e) (saved_low h vm vcpu k e))

pub saved_accepted : (h other : History) (vm vcpu k : ℕ) (x : Vcpu) → IsHistory h → refusal h (Save vm vcpu k) ≡ None
    → has_machine other ≡ true → has_vcpu other x ≡ true → home other x ≡ InMemory Parked
    → greatest_identity_of other ≡ greatest_identity_of h → refusal other (LoadPart x.vm x.vcpu (part_of (state_of h (vcpu_of vm vcpu)) k)) ≡ None
saved_accepted h other vm vcpu k x good e stands there parked same =
    load_accepted other x.vm x.vcpu (part_of (state_of h (vcpu_of vm vcpu)) k) stands there parked
    (ap (λ n. is_loadable n (part_of (state_of h (vcpu_of vm vcpu)) k)) same ∙ saved_loadable h vm vcpu k good e)

pub saved_read : (h : History) (vm vcpu k : ℕ) (x : Vcpu) → IsHistory h → refusal h (Save vm vcpu k) ≡ None → x.vm < 2 ^ 64 → x.vcpu < 2 ^ 64
    → reading (load_text x (part_text (part_of (state_of h (vcpu_of vm vcpu)) k))) ≡ parsed.Line
    (LoadPart x.vm x.vcpu (part_of (state_of h (vcpu_of vm vcpu)) k))
saved_read h vm vcpu k x good e low_vm low_number =
    load_read x (part_of (state_of h (vcpu_of vm vcpu)) k) low_vm low_number
    (part_fits (state_of h (vcpu_of vm vcpu)) k (saved_state h vm vcpu k good e) (saved_low h vm vcpu k e))
