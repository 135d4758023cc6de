-- A domain that stands for the past reads what the past says.
use Rattle.std.proofs.Common.{◌≡◌, ◌≢◌, ℕ, zero, suc, ◌*◌, ◌<◌, ◌≤◌, Bool, true, false, not, cond, ◌&&◌, nat_eq, [], ◌∷◌, length, slice_get, get_or, Some, None, unwrap_or, ◌⊎◌, inl, inr, refl, sym, ap, subst, ◌∙◌, arith, Option}
use Rattle.std.proofs.lemmas.Bool.{cases_eq, cases_lt, eq-eqb, ne_eqb, cond-true, cond-false, and_right}
use Rattle.std.proofs.lemmas.Bool.Decides.{nat_tests}
use Rattle.std.specs.Option.{option_map_or}
use Rattle.std.proofs.lemmas.Option.{slice_get_past, slice_get-get_or}
use Rattle.aia_word.specs.Sets.{has_bit, word_of}
use Rattle.std.specs.Int.{is_in_range}
use Rattle.aia_regs.specs.declared.domain_registers.DomainReg.{DomainReg}
use Rattle.aia_regs.specs.declared.domain_registers.DomainReg.TheVariants.{DomainCfg, SourceCfg, SetIp, InClrIp, SetIe, GenMsi, Target, IDelivery, IForce, IThreshold, TopI, ClaimI}
use Rattle.aia_regs.specs.Fields.{field}
use Rattle.aia_source.specs.declared.mode.Mode.{Mode}
use Rattle.aia_source.specs.declared.mode.Mode.TheVariants.{Inactive, Detached, RisingEdge, FallingEdge, LevelHigh, LevelLow}
use Rattle.aia_source.specs.Wired.{is_active, rectified}
use Rattle.aia_source.specs.declared.kept.TheConstants.{DELEGATED}
use Rattle.aia_source.specs.Registers.{legal_mode, root_sourcecfg, child_sourcecfg, delegates, mode_of, mode_number, domaincfg_read}
use Rattle.aia_domain.specs.declared.interrupt_source.SourceBit.{SourceBit}
use Rattle.aia_domain.specs.declared.interrupt_source.SourceBit.TheVariants as bits
use Rattle.aia_domain.specs.InterruptSource.{InterruptSourceState, sourcecfg_shown, bit_shown, bit_at_source}
use Rattle.aia_domain.specs.Domain.{DomainState, domain_read}
use Rattle.aia_model.specs.declared.domain_name.DomainName.{DomainName}
use Rattle.aia_model.specs.Act.{Past, is_domain, newest, when}
use Rattle.aia_model.specs.declared.domain_name.DomainName.TheVariants.{Root, Child}
use Rattle.aia_model.specs.Act.Act.{Written}
use Rattle.aia_model.specs.SourceOf.{sources_in, is_source, is_register_of, root_sourcecfg_of, is_delegated, child_told, sourcecfg_of, mode, input, is_on, enabled, target, pending, only, sources_word, own_read}
use Rattle.aia_aplic_values.specs.Side.{source_of, DomainStands}
use Rattle.aia_aplic_values.specs.Controls.{is_control}
use Rattle.aia_aplic_values.proofs.Steps.{source-idle}
use Rattle.aia_model.proofs.OwnerLemmas.{none_undelegated}
use Rattle.aia_word.proofs.SetLemmas.{same_sets}

-- ---- no source has the number 0

root-zero : (past : Past) → root_sourcecfg_of past 0 ≡ 0
unfolding newest
root-zero [] = refl
root-zero (Written Root (SourceCfg i) v ∷ past) =
    ap (λ (b : Bool). unwrap_or (when b (root_sourcecfg v)) (root_sourcecfg_of past 0)) (and_right (nat_eq i 0) false refl) ∙ root-zero past
root-zero (a ∷ past) = root-zero past

pub mode-zero : (past : Past) (d : DomainName) → is_active (mode past d 0) ≡ false
mode-zero past Root = ap (λ c. is_active (mode_of c)) (root-zero past)
mode-zero past Child = ap (λ c. is_active (mode_of c)) (none_undelegated past 0 (ap delegates (root-zero past)))

-- what is at a place: what the past makes of it, or nothing past the sources
pub place : (d : DomainState) (past : Past) (name : DomainName) (s : ℕ) → DomainStands d past name
    → ((s < suc (sources_in past)) × (slice_get d.sources s ≡ Some (source_of past name s)))
    ⊎ ((suc (sources_in past) ≤ s) × (slice_get d.sources s ≡ None))
place d past name s stands = elim (cases_lt s (length d.sources)) [
  | inl p ↦ inl (
    subst (λ n. s < n) stands.count p,
    at (get_or d.sources s (source_of past name s)) (slice_get-get_or d.sources s (source_of past name s) p),
  )
  | inr p ↦ inr (subst (λ n. n ≤ s) stands.count p, slice_get_past d.sources s p)
]
  where
    at : (x : InterruptSourceState) → slice_get d.sources s ≡ Some x → slice_get d.sources s ≡ Some (source_of past name s)
    at x e = e ∙ ap (λ (y : InterruptSourceState). Some y) (stands.each s x e)

-- which sources there are
pub there : (n s : ℕ) → s < suc n → s ≢ 0 → is_in_range 1 n s ≡ true
there n s low some = grind (arith, nat_tests)

pub not_there : (n s : ℕ) → suc n ≤ s → is_in_range 1 n s ≡ false
not_there n s past = grind (arith, nat_tests)

pub zero_not : (n s : ℕ) → s ≡ 0 → is_in_range 1 n s ≡ false
zero_not n s e = grind (arith, nat_tests)

-- what the past shows of a source
abbrev pub said : SourceBit → Past → DomainName → ℕ → Bool
said bits.Pending past d s = pending past d s
said bits.Input past d s = input past d s
said bits.Enable past d s = enabled past d s

shown_said : (which : SourceBit) (past : Past) (d : DomainName) (s : ℕ) → bit_shown which (source_of past d s) ≡ said which past d s
shown_said bits.Pending past d s = refl
shown_said bits.Input past d s = refl
shown_said bits.Enable past d s = refl

no_input : (m : Mode) (w : Bool) → is_active m ≡ false → rectified m w ≡ false
no_input Inactive w e = refl
no_input Detached w e = refl
no_input RisingEdge w e = cc
no_input FallingEdge w e = cc
no_input LevelHigh w e = cc
no_input LevelLow w e = cc

said-zero : (which : SourceBit) (past : Past) (d : DomainName) → said which past d 0 ≡ false
said-zero bits.Pending past d = (source-idle past d 0).pending (mode-zero past d)
said-zero bits.Input past d = no_input (mode past d 0) _ (mode-zero past d)
said-zero bits.Enable past d = (source-idle past d 0).enabled (mode-zero past d)

pub shown-stands : (which : SourceBit) (d : DomainState) (past : Past) (name : DomainName) (s : ℕ) → DomainStands d past name
    → bit_at_source d.sources which s ≡ (is_source past s && said which past name s)
shown-stands which d past name s stands = elim (place d past name s stands) [
  | inl p ↦ ap (λ (o : Option InterruptSourceState). option_map_or (bit_shown which) o false) p.1 ∙ shown_said which past name s
      ∙ elim (cases_eq s 0) [
        | inl e ↦ ap (said which past name) e ∙ said-zero which past name
            ∙ sym (ap (λ (b : Bool). b && said which past name s) (zero_not (sources_in past) s e))
        | inr ne ↦ sym (ap (λ (b : Bool). b && said which past name s) (there (sources_in past) s p.0 ne))
      ]
  | inr p ↦ ap (λ (o : Option InterruptSourceState). option_map_or (bit_shown which) o false) p.1
      ∙ sym (ap (λ (b : Bool). b && said which past name s) (not_there (sources_in past) s p.0))
]

pub word-stands : (which : SourceBit) (d : DomainState) (past : Past) (name : DomainName) (k : ℕ) → DomainStands d past name
    → word_of (bit_at_source d.sources which) (32 * k) 32 ≡ sources_word past (said which past name) k
word-stands which d past name k stands = ap (λ f. word_of f (32 * k) 32) (same_sets _ _ (λ s. shown-stands which d past name s stands))

-- ---- sourcecfg: a kept value is one that its mode gives again

abbrev pub IsLegal : ℕ → Type 0
IsLegal c = mode_number (mode_of c) ≡ (cond (nat_eq c DELEGATED) 0 c)

legal_low : (sm : ℕ) → sm < 8
    → (nat_eq (legal_mode sm) DELEGATED ≡ false) × (mode_number (mode_of (legal_mode sm)) ≡ legal_mode sm)
legal_low zero h = (refl, refl)
legal_low (suc zero) h = (refl, refl)
legal_low (suc (suc zero)) h = (refl, refl)
legal_low (suc (suc (suc zero))) h = (refl, refl)
legal_low (suc (suc (suc (suc zero)))) h = (refl, refl)
legal_low (suc (suc (suc (suc (suc zero))))) h = (refl, refl)
legal_low (suc (suc (suc (suc (suc (suc zero)))))) h = (refl, refl)
legal_low (suc (suc (suc (suc (suc (suc (suc zero))))))) h = (refl, refl)
legal_low (suc (suc (suc (suc (suc (suc (suc (suc sm)))))))) h = absurd (omega arith)

legal_root : (v : ℕ) → IsLegal (root_sourcecfg v)
legal_root v = at (has_bit v 10) (nat_eq (field v 9 0) 0)
  where
    at : (a b : Bool) → IsLegal (cond a (cond b DELEGATED 0) (legal_mode (field v 2 0)))
    at true true = refl
    at true false = refl
    at false b = let low = legal_low (field v 2 0) (omega arith) in low.1 ∙ sym (cond-false _ _ _ low.0)

legal_child : (v : ℕ) → (mode_number (mode_of (child_sourcecfg v)) ≡ child_sourcecfg v)
legal_child v = at (has_bit v 10)
  where
    at : (a : Bool) → mode_number (mode_of (cond a 0 (legal_mode (field v 2 0)))) ≡ cond a 0 (legal_mode (field v 2 0))
    at true = refl
    at false = (legal_low (field v 2 0) (omega arith)).1

root-legal : (past : Past) (s : ℕ) → IsLegal (root_sourcecfg_of past s)
unfolding newest
root-legal [] s = refl
root-legal (Written Root (SourceCfg i) v ∷ past) s = at (is_register_of past i s) (root-legal past s)
  where
    at : (b : Bool) → IsLegal (root_sourcecfg_of past s) → IsLegal (unwrap_or (when b (root_sourcecfg v)) (root_sourcecfg_of past s))
    at true before = legal_root v
    at false before = before
root-legal (a ∷ past) s = root-legal past s

child-legal : (past : Past) (s : ℕ) → mode_number (mode_of (newest (child_told s) past)) ≡ newest (child_told s) past
unfolding newest
child-legal [] s = refl
child-legal (Written Root (SourceCfg i) v ∷ past) s =
    at (is_register_of past i s && not (is_delegated past s && delegates (root_sourcecfg v))) (child-legal past s)
  where
    at : (b : Bool) → mode_number (mode_of (newest (child_told s) past)) ≡ newest (child_told s) past
        → mode_number (mode_of (unwrap_or (when b 0) (newest (child_told s) past))) ≡ unwrap_or (when b 0) (newest (child_told s) past)
    at true before = refl
    at false before = before
child-legal (Written Child (SourceCfg i) v ∷ past) s = at (is_register_of past i s && is_delegated past s) (child-legal past s)
  where
    at : (b : Bool) → mode_number (mode_of (newest (child_told s) past)) ≡ newest (child_told s) past
        → mode_number (mode_of (unwrap_or (when b (child_sourcecfg v)) (newest (child_told s) past))) ≡ unwrap_or (when b (child_sourcecfg v))
        (newest (child_told s) past)
    at true before = legal_child v
    at false before = before
child-legal (a ∷ past) s = child-legal past s

root_shows : (c : ℕ) → IsLegal c → cond (true && nat_eq c DELEGATED) DELEGATED (mode_number (mode_of c)) ≡ c
root_shows c legal = elim (cases_eq c DELEGATED) [
  | inl e ↦ cond-true _ _ _ (eq-eqb c DELEGATED e) ∙ sym e
  | inr ne ↦ cond-false _ _ _ (ne_eqb c DELEGATED ne) ∙ legal ∙ cond-false _ _ _ (ne_eqb c DELEGATED ne)
]

config_shown : (past : Past) (name : DomainName) (s : ℕ) → sourcecfg_shown (is_domain name Child) (source_of past name s) ≡ sourcecfg_of past name s
config_shown past Root s = root_shows (root_sourcecfg_of past s) (root-legal past s)
config_shown past Child s = child-legal past s

-- what is kept of a source with a number, where number 0 has 0
numbered : (of : ℕ → ℕ) (past : Past) (i x : ℕ) → i < suc (sources_in past) → of 0 ≡ 0 → x ≡ of i → x ≡ only (is_source past i) (of i)
numbered of past i x low none is = elim (cases_eq i 0) [
  | inl e ↦ is ∙ ap of e ∙ none ∙ sym (cond-false _ _ _ (zero_not (sources_in past) i e))
  | inr ne ↦ is ∙ sym (cond-true _ _ _ (there (sources_in past) i low ne))
]

config_zero : (past : Past) (name : DomainName) → sourcecfg_of past name 0 ≡ 0
config_zero past Root = root-zero past
config_zero past Child = none_undelegated past 0 (ap delegates (root-zero past))

pub read-stands : (reg : DomainReg) (d : DomainState) (past : Past) (name : DomainName) → is_control reg ≡ false → DomainStands d past name
    → domain_read d reg ≡ own_read past name reg
read-stands DomainCfg d past name plain stands = ap (λ (b : Bool). domaincfg_read b d.msi) stands.on
    ∙ ap (λ (b : Bool). domaincfg_read (is_on past name) b) stands.msi
read-stands (SetIp k) d past name plain stands = word-stands bits.Pending d past name k stands
read-stands (InClrIp k) d past name plain stands = word-stands bits.Input d past name k stands
read-stands (SetIe k) d past name plain stands = word-stands bits.Enable d past name k stands
read-stands GenMsi d past name plain stands = stands.genmsi
read-stands (SourceCfg i) d past name plain stands = elim (place d past name i stands) [
  | inl p ↦ numbered (sourcecfg_of past name) past i _ p.0 (config_zero past name)
      (ap (λ (o : Option InterruptSourceState). option_map_or (sourcecfg_shown d.leaf) o 0) p.1
      ∙ ap (λ (b : Bool). sourcecfg_shown b (source_of past name i)) stands.leaf ∙ config_shown past name i)
  | inr p ↦ ap (λ (o : Option InterruptSourceState). option_map_or (sourcecfg_shown d.leaf) o 0) p.1
      ∙ sym (cond-false _ _ _ (not_there (sources_in past) i p.0))
]
read-stands (Target i) d past name plain stands = elim (place d past name i stands) [
  | inl p ↦ numbered (target past name) past i _ p.0 ((source-idle past name 0).target (mode-zero past name))
      (ap (λ (o : Option InterruptSourceState). option_map_or (λ (x : InterruptSourceState). x.target) o 0) p.1)
  | inr p ↦ ap (λ (o : Option InterruptSourceState). option_map_or (λ (x : InterruptSourceState). x.target) o 0) p.1
      ∙ sym (cond-false _ _ _ (not_there (sources_in past) i p.0))
]
read-stands (IDelivery hart) d past name plain stands = cc
read-stands (IForce hart) d past name plain stands = cc
read-stands (IThreshold hart) d past name plain stands = cc
read-stands (TopI hart) d past name plain stands = cc
read-stands (ClaimI hart) d past name plain stands = cc
read-stands reg d past name plain stands = refl
