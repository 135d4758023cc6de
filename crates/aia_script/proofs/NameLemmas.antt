-- The name of a CSR, found row by row.
use Rattle.std.proofs.Common.{◌≡◌, ℕ, ◌<◌, true, List, Option, length, map, drop, get_or, refl, sym, ap, ◌∙◌}
use Rattle.std.specs.Borrow.{Bor}
use Rattle.std.proofs.lemmas.Bool.{cond-true}
use Rattle.std.proofs.lemmas.List.{at_drop_more}
use Rattle.aia_regs.specs.declared.access.Csr.{Csr}
use Rattle.aia_regs.specs.declared.access.Csr.TheVariants.{Select, Reg, Topei, Topi, Sip, Sie}
use Rattle.aia_model.specs.Grammar.{is_csr, name_among}
use Rattle.aia_model.specs.AnswerText.{name_text}

-- the row of a CSR has its name
pub name_there : (rows : List (Bor (List ℕ) × Csr)) (i : ℕ) (first : Bor (List ℕ) × Csr) (name : Option (List ℕ)) (csr : Csr) → i < length rows
    → (get_or rows i first).1 ≡ csr → name_among (map (λ row. (row.0.now, row.1)) (drop i rows)) csr ≡ name
    → (get_or rows i first).0.now ≡ name_text name
name_there rows i first name csr there is rest =
    let row = get_or rows i first in
    sym (ap name_text (cond-true _ _ _ (itself row.1 csr is)))
    ∙ sym (at_drop_more (λ rows. name_text (name_among (map (λ row. (row.0.now, row.1)) rows) csr)) rows i first there)
    ∙ ap name_text rest
  where
    itself : (csr other : Csr) → csr ≡ other → is_csr csr other ≡ true
    itself csr other e = ap (is_csr csr) (sym e) ∙ same csr
      where
        same : (csr : Csr) → is_csr csr csr ≡ true
        same Select = refl
        same Reg = refl
        same Topei = refl
        same Topi = refl
        same Sip = refl
        same Sie = refl
