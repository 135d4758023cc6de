-- A line that loads a part of an image.
use Rattle.std.proofs.Common.{◌≡◌, ◌≢◌, ◌∷◌, None, inl, inr, refl, sym, ap, ◌∙◌}
use Rattle.std.proofs.lemmas.Bool.{cases_Bool}
use Rattle.aia_vcpu.specs.Vms.{Vcpu, is_vcpu}
use Rattle.aia_word.specs.Top.{top_value}
use Rattle.aia_regs.specs.declared.access.Csr.{Csr}
use Rattle.aia_regs.specs.declared.access.Csr.TheVariants.{Select, Reg, Topei, Topi, Sip, Sie}
use Rattle.aia_file.specs.InterruptFile.{top_of, signals}
use Rattle.aia_major.specs.VsMajor.{stopi_value, sip_value, sie_value}
use Rattle.aia_model.specs.declared.line.Line.TheVariants.{LoadPart}
use Rattle.aia_model.specs.declared.part.Part.{Part}
use Rattle.aia_model.specs.Event.{History}
use Rattle.aia_model.specs.Event.Event.{Accepted}
use Rattle.aia_model.specs.FileAfter.{select_by, file_by}
use Rattle.aia_model.specs.MajorOf.{majors_of}
use Rattle.aia_model.specs.Image.{GuestState, part_loaded}
use Rattle.aia_model.specs.StateOf.{state_of}
use Rattle.aia_model.specs.Refusal.{refusal}
use Rattle.aia_model.specs.Answer.{after, delivered, csr_shown, guest_csr_value}
use Rattle.aia_model.proofs.AnswerLemmas.{after_by}
use Rattle.aia_model.proofs.SentLemmas.{none_sent_by}
use Rattle.aia_vcpu.proofs.VmLemmas.{same_vcpu}
use Rattle.aia_model.proofs.MoveLemmas.{is_itself}

after_load : (h : History) (x : Vcpu) (part : Part) → refusal h (LoadPart x.vm x.vcpu part) ≡ None
    → after h (LoadPart x.vm x.vcpu part) ≡ Accepted (LoadPart x.vm x.vcpu part) ∷ h
after_load h x part e =
    after_by h (LoadPart x.vm x.vcpu part) None e
    ∙ ap (λ sent. delivered sent (Accepted (LoadPart x.vm x.vcpu part) ∷ h)) (none_sent_by h (LoadPart x.vm x.vcpu part) refl)

own_load : (h : History) (g : Vcpu) (part : Part) → state_of (Accepted (LoadPart g.vm g.vcpu part) ∷ h) g ≡ part_loaded part (state_of h g)
unfolding select_by file_by majors_of
own_load h g part = rw (is_itself g) refl

other_load : (h : History) (x g : Vcpu) (part : Part) → x ≢ g → state_of (Accepted (LoadPart x.vm x.vcpu part) ∷ h) g ≡ state_of h g
unfolding select_by file_by majors_of
other_load h x g part other = elim (cases_Bool (is_vcpu g x)) [
  | inl own ↦ absurd (other (sym (same_vcpu g x own)))
  | inr away ↦ rw away refl
]

pub line_loads : (h : History) (g : Vcpu) (part : Part) → refusal h (LoadPart g.vm g.vcpu part) ≡ None
    → state_of (after h (LoadPart g.vm g.vcpu part)) g ≡ part_loaded part (state_of h g)
line_loads h g part e = ap (λ now. state_of now g) (after_load h g part e) ∙ own_load h g part

pub line_leaves : (h : History) (x g : Vcpu) (part : Part) → x ≢ g → refusal h (LoadPart x.vm x.vcpu part) ≡ None
    → state_of (after h (LoadPart x.vm x.vcpu part)) g ≡ state_of h g
line_leaves h x g part other e = ap (λ now. state_of now g) (after_load h x part e) ∙ other_load h x g part other

-- ---- what it reads follows from its state

pub same_reads : (h other : History) (g x : Vcpu) (csr : Csr) → state_of h g ≡ state_of other x
    → guest_csr_value h g csr ≡ guest_csr_value other x csr
same_reads h other g x Topi e = ap (λ (s : GuestState). stopi_value s.majors (top_value (top_of s.file)) (signals s.file)) e
same_reads h other g x Sip e = ap (λ (s : GuestState). sip_value s.majors (signals s.file)) e
same_reads h other g x Sie e = ap (λ (s : GuestState). sie_value s.majors) e
same_reads h other g x Select e = ap (λ (s : GuestState). csr_shown s.select s.file Select) e
same_reads h other g x Reg e = ap (λ (s : GuestState). csr_shown s.select s.file Reg) e
same_reads h other g x Topei e = ap (λ (s : GuestState). csr_shown s.select s.file Topei) e
