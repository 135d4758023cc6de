-- What an accepted line clears is pending no more after it.
use Rattle.std.proofs.Common.{◌≡◌, ℕ, true, false, Some, None, refl, sym, ap, ◌∙◌, subst}
use Rattle.std.proofs.lemmas.Bool.{cond-true, eq-eqb}
use Rattle.aia_regs.specs.declared.access.Csr.TheVariants.{Reg, Topei}
use Rattle.aia_regs.specs.declared.access.Op.{Op}
use Rattle.aia_regs.specs.Operations.{is_writing}
use Rattle.aia_regs.specs.FileRegisters.{register_of, eip_said}
use Rattle.aia_regs.specs.BitUpdate.{settle}
use Rattle.aia_regs.specs.BitUpdate.BitUpdate.{Clear}
use Rattle.aia_file.specs.InterruptFile.{top_of}
use Rattle.aia_vcpu.specs.Vms.{Vcpu, vcpu_of}
use Rattle.aia_model.specs.declared.line.Line.{Line}
use Rattle.aia_model.specs.declared.line.Line.TheVariants.{GuestCsr}
use Rattle.aia_model.specs.Event.{History, greatest_identity_of}
use Rattle.aia_model.specs.FileAfter.{file_after}
use Rattle.aia_model.specs.GuestFile.{guest_file, guest_select}
use Rattle.aia_model.specs.Refusal.{refusal}
use Rattle.aia_model.specs.Answer.{after}
use Rattle.aia_model.proofs.GreatestLemmas.{guest_greatest}
use Rattle.aia_model.proofs.MoveLemmas.{is_itself}
use Rattle.aia_laws.specs.Requests.{Clears}
use Rattle.aia_laws.specs.Claims.{IsLeastToClaim, without}
use Rattle.aia_laws.proofs.AfterLemmas.{none_forwarded, file_after_line}
use Rattle.aia_uses.proofs.TopLemmas.{top_is_least}

write_clears : (h : History) (g : Vcpu) (op : Op) (i : ℕ) → refusal h (GuestCsr g.vm g.vcpu Reg op) ≡ None
    → eip_said (greatest_identity_of h) (register_of (guest_select h g)) op i ≡ Clear
    → (guest_file (after h (GuestCsr g.vm g.vcpu Reg op)) g).pending i ≡ false
write_clears h g op i ok word =
    let line = GuestCsr g.vm g.vcpu Reg op in
    ap (λ file. file.pending i) (file_after_line h line g (none_forwarded h line g refl) refl ok
    ∙ ap (λ deed. file_after (guest_select h g) deed (guest_file h g)) (cond-true _ _ _ (is_itself g)))
    ∙ ap (λ n. settle (eip_said n (register_of (guest_select h g)) op i) ((guest_file h g).pending i)) (guest_greatest h g)
    ∙ ap (λ said. settle said ((guest_file h g).pending i)) word

-- given what a claim leaves
pub gone : ((h : History) (g : Vcpu) (op : Op) (i : ℕ) → refusal h (GuestCsr g.vm g.vcpu Topei op) ≡ None → is_writing op ≡ true
    → IsLeastToClaim (guest_file h g) i → guest_file (after h (GuestCsr g.vm g.vcpu Topei op)) g ≡ without (guest_file h g) i)
    → (h : History) (line : Line) (g : Vcpu) (i : ℕ) → refusal h line ≡ None → Clears h line g i → (guest_file (after h line) g).pending i ≡ false
gone left h (GuestCsr vm vcpu Topei op) g i ok clears =
    let own = vcpu_of vm vcpu in
    let top : top_of (guest_file h own) ≡ Some i = subst (λ x. top_of (guest_file h x) ≡ Some i) (sym clears.0) clears.2 in
    subst (λ x. (guest_file (after h (GuestCsr vm vcpu Topei op)) x).pending i ≡ false) clears.0
    (ap (λ file. file.pending i) (left h own op i ok clears.1 (top_is_least (guest_file h own) i top)) ∙ cond-true _ _ _ (eq-eqb i i refl))
gone left h (GuestCsr vm vcpu Reg op) g i ok clears =
    let own = vcpu_of vm vcpu in
    let word : eip_said (greatest_identity_of h) (register_of (guest_select h own)) op i ≡ Clear =
    subst (λ x. eip_said (greatest_identity_of h) (register_of (guest_select h x)) op i ≡ Clear) (sym clears.0) clears.1 in
    subst (λ x. (guest_file (after h (GuestCsr vm vcpu Reg op)) x).pending i ≡ false) clears.0 (write_clears h own op i ok word)
gone left h line g i ok clears = absurd clears
