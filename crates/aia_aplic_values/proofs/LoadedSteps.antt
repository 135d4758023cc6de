-- What a load makes of a source: one of claimi claims the source on top, every other load says nothing.
use Rattle.std.proofs.Common.{◌≡◌, ℕ, Bool, true, false, cond, ◌&&◌, nat_lt, ◌∷◌, ◌∙◌}
use Rattle.aia_regs.specs.declared.domain_registers.DomainReg.{DomainReg}
use Rattle.aia_regs.specs.declared.domain_registers.DomainReg.TheVariants.{ClaimI}
use Rattle.aia_source.specs.Wired.SourceDeed.{Claimed}
use Rattle.aia_regs.specs.Top.{is_top}
use Rattle.aia_domain.specs.InterruptSource.{with_deed}
use Rattle.aia_model.specs.declared.domain_name.DomainName.{DomainName}
use Rattle.aia_model.specs.Act.{Past, newest}
use Rattle.aia_model.specs.declared.domain_name.DomainName.TheVariants.{Root, Child}
use Rattle.aia_model.specs.Act.Act.{Loaded}
use Rattle.aia_model.specs.SourceOf.{harts_in, wire_of, delivers_by_msis, top}
use Rattle.aia_aplic_values.specs.Side.{source_of}
use Rattle.aia_aplic_values.proofs.Steps.{source-step, source-idle, step-nothing, done_if}

abbrev pub is_claim : DomainReg → Bool
is_claim (ClaimI hart) = true
is_claim reg = false

pub claimed : (hart : ℕ) (past : Past) (d : DomainName) (s : ℕ)
    → source_of (Loaded d (ClaimI hart) ∷ past) d s ≡ cond (nat_lt hart (harts_in past) && is_top (top past d hart) s)
    (with_deed (delivers_by_msis past d) Claimed (source_of past d s)) (source_of past d s)
unfolding newest wire_of
claimed hart past Root s = source-step (Loaded Root (ClaimI hart)) past Root s
    ∙ done_if (nat_lt hart (harts_in past) && is_top (top past Root hart) s) (delivers_by_msis past Root) Claimed (source_of past Root s)
    (source-idle past Root s)
claimed hart past Child s = source-step (Loaded Child (ClaimI hart)) past Child s
    ∙ done_if (nat_lt hart (harts_in past) && is_top (top past Child hart) s) (delivers_by_msis past Child) Claimed (source_of past Child s)
    (source-idle past Child s)

pub loaded : (reg : DomainReg) (past : Past) (d : DomainName) (s : ℕ) → is_claim reg ≡ false
    → source_of (Loaded d reg ∷ past) d s ≡ source_of past d s
unfolding newest wire_of
loaded (ClaimI hart) past d s other = cc
loaded reg past Root s other = source-step (Loaded Root reg) past Root s
    ∙ step-nothing (delivers_by_msis past Root) (source_of past Root s) (source-idle past Root s)
loaded reg past Child s other = source-step (Loaded Child reg) past Child s
    ∙ step-nothing (delivers_by_msis past Child) (source_of past Child s) (source-idle past Child s)

pub root_at_child_loaded : (reg : DomainReg) (past : Past) (s : ℕ) → source_of (Loaded Child reg ∷ past) Root s ≡ source_of past Root s
unfolding newest wire_of
root_at_child_loaded (ClaimI hart) past s = source-step (Loaded Child (ClaimI hart)) past Root s
    ∙ step-nothing (delivers_by_msis past Root) (source_of past Root s) (source-idle past Root s)
root_at_child_loaded reg past s = source-step (Loaded Child reg) past Root s
    ∙ step-nothing (delivers_by_msis past Root) (source_of past Root s) (source-idle past Root s)

pub child_at_root_loaded : (reg : DomainReg) (past : Past) (s : ℕ) → source_of (Loaded Root reg ∷ past) Child s ≡ source_of past Child s
unfolding newest wire_of
child_at_root_loaded (ClaimI hart) past s = source-step (Loaded Root (ClaimI hart)) past Child s
    ∙ step-nothing (delivers_by_msis past Child) (source_of past Child s) (source-idle past Child s)
child_at_root_loaded reg past s = source-step (Loaded Root reg) past Child s
    ∙ step-nothing (delivers_by_msis past Child) (source_of past Child s) (source-idle past Child s)
