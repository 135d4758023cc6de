-- A source is active in one domain at most, and to delegate again what is delegated changes nothing.
use Rattle.std.proofs.Common.{◌≡◌, ℕ, Bool, true, false, not, cond, ◌&&◌, ◌∷◌, nat_eq, None, unwrap_or, inl, inr, ap, sym, subst, ◌∙◌, refl}
use Rattle.std.proofs.lemmas.Bool.{cases_eq, ne_eqb, eqb-true, and_right, and_parts}
use Rattle.aia_source.specs.Wired.{is_active}
use Rattle.aia_source.specs.declared.kept.TheConstants.{DELEGATED}
use Rattle.aia_source.specs.Registers.{mode_of, root_sourcecfg, delegates}
use Rattle.aia_regs.specs.declared.domain_registers.DomainReg.TheVariants.{SourceCfg}
use Rattle.aia_regs.specs.BitUpdate.BitUpdate.{Nothing}
use Rattle.aia_source.specs.Wired.SourceDeed.{Configured, Untouched}
use Rattle.aia_model.specs.Act.{Past, newest, when}
use Rattle.aia_model.specs.Act.Act.{Written}
use Rattle.aia_model.specs.declared.domain_name.DomainName.{DomainName}
use Rattle.aia_model.specs.declared.domain_name.DomainName.TheVariants.{Root, Child}
use Rattle.aia_model.specs.SourceOf.{is_source, is_register_of, wire_of, root_sourcecfg_of, is_delegated, child_told, sourcecfg_of, delivers_by_msis, is_active_in}
use Rattle.aia_aplic_values.specs.Side.{source_of}
use Rattle.aia_aplic_values.proofs.Steps.{stepped, source-step, source-idle, step-nothing, step-deed}
use Rattle.aia_model.proofs.OwnerLemmas.{none_undelegated}
use Rattle.aia_aplic_values.proofs.WriteSteps.{inactive-stays}

-- the root domain's register of a delegated source gives no mode, and that of another source leaves the child domain's register 0
pub one_owner : (past : Past) (s : ℕ) → (is_active_in past Root s && is_active_in past Child s) ≡ false
one_owner past s = elim (cases_eq (root_sourcecfg_of past s) DELEGATED) [
  | inl e ↦ ap (λ c. is_active (mode_of c) && is_active_in past Child s) e
  | inr ne ↦ ap (λ c. is_active_in past Root s && is_active (mode_of c))
      (none_undelegated past s (ne_eqb (root_sourcecfg_of past s) DELEGATED ne)) ∙ and_right (is_active_in past Root s) false refl
]

-- ---- a source that is delegated is delegated again

-- a register that is written as it is
same_written : (b : Bool) (new was : ℕ) → (b ≡ true → new ≡ was) → unwrap_or (when b new) was ≡ was
same_written true new was same = same refl
same_written false new was same = refl

not_written : (b : Bool) (was : ℕ) → b ≡ false → unwrap_or (when b 0) was ≡ was
not_written true was e = cc
not_written false was e = refl

-- the write is one of the source's register, so it is delegated
both_delegated : (past : Past) (i s c : ℕ) → is_delegated past i ≡ true → is_register_of past i s ≡ true → is_delegated past s ≡ true
both_delegated past i s c was at = subst (λ j. is_delegated past j ≡ true) (eqb-true i s (and_parts (nat_eq i s) (is_source past s) at).0) was

pub same_sourcecfg : (past : Past) (i v : ℕ) (d : DomainName) (s : ℕ) → is_delegated past i ≡ true → delegates (root_sourcecfg v) ≡ true
    → sourcecfg_of (Written Root (SourceCfg i) v ∷ past) d s ≡ sourcecfg_of past d s
unfolding newest
same_sourcecfg past i v Root s was again = same_written (is_register_of past i s) (root_sourcecfg v) (root_sourcecfg_of past s)
    (λ at. eqb-true (root_sourcecfg v) DELEGATED again ∙ sym (eqb-true (root_sourcecfg_of past s) DELEGATED (both_delegated past i s v was at)))
same_sourcecfg past i v Child s was again = not_written (is_register_of past i s && not (is_delegated past s && delegates (root_sourcecfg v)))
    (newest (child_told s) past) (at (is_register_of past i s) refl)
  where
    at : (b : Bool) → is_register_of past i s ≡ b → (b && not (is_delegated past s && delegates (root_sourcecfg v))) ≡ false
    at true here = ap (λ x. not (x && delegates (root_sourcecfg v))) (both_delegated past i s v was here) ∙ ap not again
    at false e = refl

-- a source keeps what it has where its mode and its delegation stay, and its sourcecfg is written only where it is inactive
pub same_source : (past : Past) (i v : ℕ) (d : DomainName) (s : ℕ) → is_delegated past i ≡ true → delegates (root_sourcecfg v) ≡ true
    → source_of (Written Root (SourceCfg i) v ∷ past) d s ≡ source_of past d s
unfolding newest wire_of
same_source past i v Child s was again =
    source-step (Written Root (SourceCfg i) v) past Child s
    ∙ ap (λ c. stepped (mode_of c) (wire_of past s) (delivers_by_msis past Child) (delivers_by_msis past Child)
    (is_delegated (Written Root (SourceCfg i) v ∷ past) s) None Nothing Untouched (source_of past Child s))
    (same_sourcecfg past i v Child s was again)
    ∙ ap (λ c. stepped (mode_of (sourcecfg_of past Child s)) (wire_of past s) (delivers_by_msis past Child) (delivers_by_msis past Child)
    (delegates c) None Nothing Untouched (source_of past Child s)) (same_sourcecfg past i v Root s was again)
    ∙ step-nothing (delivers_by_msis past Child) (source_of past Child s) (source-idle past Child s)
same_source past i v Root s was again =
    source-step (Written Root (SourceCfg i) v) past Root s
    ∙ ap (λ c. stepped (mode_of c) (wire_of past s) (delivers_by_msis past Root) (delivers_by_msis past Root) (delegates c) None Nothing
    (cond (is_register_of past i s) Configured Untouched) (source_of past Root s)) (same_sourcecfg past i v Root s was again)
    ∙ at (is_register_of past i s) refl
  where
    at : (b : Bool) → is_register_of past i s ≡ b → stepped (mode_of (sourcecfg_of past Root s)) (wire_of past s) (delivers_by_msis past Root)
        (delivers_by_msis past Root) (is_delegated past s) None Nothing (cond b Configured Untouched) (source_of past Root s) ≡ source_of past Root s
    at true here =
        let off : is_active_in past Root s ≡ false = ap (λ c. is_active (mode_of c))
        (eqb-true (root_sourcecfg_of past s) DELEGATED (both_delegated past i s v was here)) in
        step-deed (delivers_by_msis past Root) (source_of past Root s) Configured (source-idle past Root s)
        ∙ inactive-stays (delivers_by_msis past Root) (source_of past Root s) (source-idle past Root s) off
    at false e = step-nothing (delivers_by_msis past Root) (source_of past Root s) (source-idle past Root s)
