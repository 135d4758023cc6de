-- A virtual hart that runs has the CSRs of its interrupt file, wherever it runs.
use Rattle.std.proofs.Common.{◌≡◌, ℕ, ◌∷◌, true, not, cond, unwrap_or, Option, Some, None, refl, sym, ap, ◌∙◌}
use Rattle.std.proofs.lemmas.Bool.{cond-true, cond-false}
use Rattle.aia_regs.specs.declared.access.Csr.{Csr}
use Rattle.aia_regs.specs.declared.access.Csr.TheVariants.{Select, Reg, Topei}
use Rattle.aia_regs.specs.declared.access.Op.{Op}
use Rattle.aia_regs.specs.declared.access.Level.TheVariants as levels
use Rattle.aia_csr.specs.CsrAccess.{csr_access, IsFileCsr}
use Rattle.aia_vcpu.specs.Vms.{Vcpu}
use Rattle.aia_model.specs.declared.answer.Answer.{Answer}
use Rattle.aia_model.specs.declared.answer.Answer.TheVariants.{Wide, Refused}
use Rattle.aia_model.specs.declared.refusal.Refusal.TheVariants.{Illegal, Virtual}
use Rattle.aia_model.specs.declared.line.Line.{Line}
use Rattle.aia_model.specs.declared.line.Line.TheVariants.{GuestCsr, Enter, Exit}
use Rattle.aia_model.specs.Event.{History}
use Rattle.aia_model.specs.FileAfter.FileDeed.{Accesses}
use Rattle.aia_model.specs.Event.Event.{Accepted}
use Rattle.aia_model.specs.FileAfter.{file_after, select_after, select_by, file_by}
use Rattle.aia_model.specs.MajorOf.{majors_of}
use Rattle.aia_model.specs.GuestFile.{guest_file, guest_select}
use Rattle.aia_model.specs.Refusal.{refusal, raises_illegal, raises_virtual}
use Rattle.aia_model.specs.Answer.{answer, after, line_taken, csr_shown}
use Rattle.aia_model.proofs.AnswerLemmas.{answered, guest_refusal, after_by}
use Rattle.aia_model.proofs.MoveLemmas.{is_itself}
use Rattle.aia_laws.specs.Claims.{HasCsr, HasSameFile}
use Rattle.aia_laws.proofs.AfterLemmas.{IsSameGuest, and_same, by_refusal, taken_same, none_forwarded, file_after_line, select_after_line}

abbrev own_line : Vcpu → Csr → Op → Line
own_line g csr op = GuestCsr g.vm g.vcpu csr op

-- what refuses it, whatever hvictl says
abbrev file_refusal : History → Vcpu → Csr → Op → Option Answer
file_refusal h g csr op =
    cond (raises_illegal (csr_access levels.Guest csr op (guest_select h g) true)) (Some (Refused Illegal))
    (cond (raises_virtual (csr_access levels.Guest csr op (guest_select h g) true)) (Some (Refused Virtual)) None)

refused_there : (h : History) (g : Vcpu) (csr : Csr) (op : Op) → IsFileCsr csr → HasCsr h g csr
    → refusal h (own_line g csr op) ≡ file_refusal h g csr op
refused_there h g Select op own at = guest_refusal h g.vm g.vcpu Select op at.machine ∙ cond-false _ _ _ (ap not at.there)
    ∙ cond-false _ _ _ (ap not at.served)
refused_there h g Reg op own at = guest_refusal h g.vm g.vcpu Reg op at.machine ∙ cond-false _ _ _ (ap not at.there)
    ∙ cond-false _ _ _ (ap not at.served)
refused_there h g Topei op own at = guest_refusal h g.vm g.vcpu Topei op at.machine ∙ cond-false _ _ _ (ap not at.there)
    ∙ cond-false _ _ _ (ap not at.served)
refused_there h g csr op own at = absurd own

answers_there : (h : History) (g : Vcpu) (csr : Csr) (op : Op) (o : Option Answer) → IsFileCsr csr → refusal h (own_line g csr op) ≡ o
    → answer h (own_line g csr op) ≡ unwrap_or o (Wide (csr_shown (guest_select h g) (guest_file h g) csr))
answers_there h g Select op o own e = answered h (own_line g Select op) o e
answers_there h g Reg op o own e = answered h (own_line g Reg op) o e
answers_there h g Topei op o own e = answered h (own_line g Topei op) o e
answers_there h g csr op o own e = absurd own

file_there : (h : History) (g : Vcpu) (csr : Csr) (op : Op) → refusal h (own_line g csr op) ≡ None
    → guest_file (after h (own_line g csr op)) g ≡ file_after (guest_select h g) (Accesses csr op) (guest_file h g)
file_there h g csr op e = file_after_line h (own_line g csr op) g (none_forwarded h (own_line g csr op) g refl) refl e
    ∙ ap (λ deed. file_after (guest_select h g) deed (guest_file h g)) (cond-true _ _ _ (is_itself g))

select_there : (h : History) (g : Vcpu) (csr : Csr) (op : Op) → refusal h (own_line g csr op) ≡ None
    → guest_select (after h (own_line g csr op)) g ≡ select_after (Accesses csr op) (guest_select h g)
select_there h g csr op e = select_after_line h (own_line g csr op) g (none_forwarded h (own_line g csr op) g refl) refl e
    ∙ ap (λ deed. select_after deed (guest_select h g)) (cond-true _ _ _ (is_itself g))

abbrev SameThere : History → History → Vcpu → Csr → Op → Type 0
SameThere h k g csr op = (answer h (own_line g csr op) ≡ answer k (own_line g csr op))
    × HasSameFile (after h (own_line g csr op)) (after k (own_line g csr op)) g

pub reads_the_same : (h k : History) (g : Vcpu) (csr : Csr) (op : Op) → IsFileCsr csr → HasCsr h g csr → HasCsr k g csr → HasSameFile h k g
    → SameThere h k g csr op
reads_the_same h k g csr op own at there same = by_refusal (file_refusal h g csr op) (refused_there h g csr op own at)
    (refused_there k g csr op own there ∙ ap (λ select. cond (raises_illegal (csr_access levels.Guest csr op select true))
    (Some (Refused Illegal)) (cond (raises_virtual (csr_access levels.Guest csr op select true)) (Some (Refused Virtual)) None))
    (sym same.select))
  where
    answers : (o : Option Answer) → refusal h (own_line g csr op) ≡ o → refusal k (own_line g csr op) ≡ o
        → answer h (own_line g csr op) ≡ answer k (own_line g csr op)
    answers o e f = answers_there h g csr op o own e ∙ ap (λ select. unwrap_or o (Wide (csr_shown select (guest_file h g) csr))) same.select
        ∙ ap (λ file. unwrap_or o (Wide (csr_shown (guest_select k g) file csr))) same.file ∙ sym (answers_there k g csr op o own f)

    by_refusal : (o : Option Answer) → refusal h (own_line g csr op) ≡ o → refusal k (own_line g csr op) ≡ o → SameThere h k g csr op
    by_refusal None e f = (
      answers None e f,
      record {
        file = file_there h g csr op e ∙ ap (λ select. file_after select (Accesses csr op) (guest_file h g)) same.select
            ∙ ap (file_after (guest_select k g) (Accesses csr op)) same.file ∙ sym (file_there k g csr op f);
        select = select_there h g csr op e ∙ ap (select_after (Accesses csr op)) same.select ∙ sym (select_there k g csr op f);
      },
    )
    by_refusal (Some word) e f = (
      answers (Some word) e f,
      record {
        file = ap (λ x. guest_file x g) (after_by h (own_line g csr op) (Some word) e) ∙ same.file
            ∙ sym (ap (λ x. guest_file x g) (after_by k (own_line g csr op) (Some word) f));
        select = ap (λ x. guest_select x g) (after_by h (own_line g csr op) (Some word) e) ∙ same.select
            ∙ sym (ap (λ x. guest_select x g) (after_by k (own_line g csr op) (Some word) f));
      },
    )

-- ---- that it begins to, and ceases to, is nothing to any

entered_same : (vm vcpu : ℕ) (h : History) (g : Vcpu) → IsSameGuest (Accepted (Enter vm vcpu) ∷ h) h g
unfolding select_by file_by majors_of
entered_same vm vcpu h g = (refl, refl, refl)

exited_same : (vm vcpu : ℕ) (h : History) (g : Vcpu) → IsSameGuest (Accepted (Exit vm vcpu) ∷ h) h g
unfolding select_by file_by majors_of
exited_same vm vcpu h g = (refl, refl, refl)

abbrev StaysAfter : History → Line → Vcpu → Type 0
StaysAfter h line g = HasSameFile (after h line) h g × (majors_of (after h line) g ≡ majors_of h g)

stays_after : (h : History) (line : Line) (g : Vcpu) → IsSameGuest (after h line) h g → StaysAfter h line g
stays_after h line g same = (record { file = same.0; select = same.1 }, same.2)

pub enters_same : (h : History) (vm vcpu : ℕ) (g : Vcpu) → StaysAfter h (Enter vm vcpu) g
enters_same h vm vcpu g = stays_after h (Enter vm vcpu) g (by_refusal (λ k. IsSameGuest k h g) h (Enter vm vcpu) (refl, refl, refl)
    (λ e. and_same (after h (Enter vm vcpu)) (line_taken h (Enter vm vcpu)) h g
    (taken_same h (Enter vm vcpu) g (none_forwarded h (Enter vm vcpu) g refl) e) (entered_same vm vcpu h g)))

pub exits_same : (h : History) (vm vcpu : ℕ) (g : Vcpu) → StaysAfter h (Exit vm vcpu) g
exits_same h vm vcpu g = stays_after h (Exit vm vcpu) g (by_refusal (λ k. IsSameGuest k h g) h (Exit vm vcpu) (refl, refl, refl)
    (λ e. and_same (after h (Exit vm vcpu)) (line_taken h (Exit vm vcpu)) h g
    (taken_same h (Exit vm vcpu) g (none_forwarded h (Exit vm vcpu) g refl) e) (exited_same vm vcpu h g)))
