-- What a store makes of a source in the domain that it is to.
use Rattle.std.proofs.Common.{◌≡◌, ◌<◌, ℕ, suc, Bool, true, false, not, cond, ◌&&◌, nat_eq, nat_lt, ◌∷◌, Option, Some, None, unwrap_or, refl, sym, ap, ◌∙◌, arith}
use Rattle.std.proofs.lemmas.Bool.Decides.{nat_tests}
use Rattle.std.specs.Int.{is_in_range}
use Rattle.aia_regs.specs.declared.domain_registers.DomainReg.{DomainReg}
use Rattle.aia_regs.specs.declared.domain_registers.DomainReg.TheVariants.{DomainCfg, SourceCfg, GenMsi, Target}
use Rattle.aia_regs.specs.BitUpdate.{settle}
use Rattle.aia_regs.specs.BitUpdate.BitUpdate.{Nothing}
use Rattle.aia_source.specs.declared.mode.Mode.{Mode}
use Rattle.aia_source.specs.declared.mode.Mode.TheVariants.{Inactive, Detached, RisingEdge, FallingEdge, LevelHigh, LevelLow}
use Rattle.aia_source.specs.Wired.{done, is_active, rectified, says}
use Rattle.aia_source.specs.Wired.SourceDeed.{Set, Cleared, Configured, Switched, Untouched}
use Rattle.aia_source.specs.declared.kept.TheConstants.{DELEGATED}
use Rattle.aia_source.specs.Registers.{domaincfg_kept, is_by_msi, root_sourcecfg, child_sourcecfg, delegates, mode_of, touch, deed_of_touch, enable_of_touch, first_target, target_kept, same_bool, is_number_of}
use Rattle.aia_source.specs.declared.touch.Touch.{Touch}
use Rattle.aia_source.specs.declared.touch.Touch.TheVariants.{SetPending, ClearPending, SetEnable, ClearEnable}
use Rattle.aia_domain.specs.InterruptSource.{InterruptSourceState, with_deed, touched, configured, switched, sourcecfg_written, granted, changed_if_named}
use Rattle.aia_domain.specs.Domain.{source_changed}
use Rattle.aia_model.specs.Act.{Past, newest, when}
use Rattle.aia_model.specs.declared.domain_name.DomainName.TheVariants.{Root, Child}
use Rattle.aia_model.specs.Act.Act.{Written}
use Rattle.aia_model.specs.SourceOf.{harts_in, sources_in, is_register_of, wire_of, root_sourcecfg_of, is_delegated, child_told, delivers_by_msis}
use Rattle.aia_model.proofs.OwnerLemmas.{none_undelegated}
use Rattle.aia_aplic_values.specs.Side.{source_of}
use Rattle.aia_aplic_values.proofs.Steps.{stepped, target_after, source-step, source-idle, IsIdle, step-nothing, step-deed, step-enable, aimed_if, said_nothing, same_enable}

-- a store to a register that touches bits alone
touch-step : (t : Option Touch) (msi : Bool) (x : InterruptSourceState) → IsIdle x
    → stepped x.source.mode x.source.wire msi msi x.delegated None (enable_of_touch t) (deed_of_touch t) x ≡ touched msi t x
touch-step None msi x idle = step-nothing msi x idle
touch-step (Some SetPending) msi x idle = step-deed msi x Set idle
touch-step (Some ClearPending) msi x idle = step-deed msi x Cleared idle
touch-step (Some SetEnable) msi x idle = step-enable true msi x idle
touch-step (Some ClearEnable) msi x idle = step-enable false msi x idle

switched_says : (m : Mode) (msi msi' r was : Bool) → settle (says m msi r r Switched) was ≡ settle (says m msi' r r Switched) was
switched_says Inactive msi msi' r was = refl
switched_says Detached msi msi' r was = refl
switched_says RisingEdge msi msi' r was = refl
switched_says FallingEdge msi msi' r was = refl
switched_says LevelHigh msi msi' r was = refl
switched_says LevelLow msi msi' r was = refl

switched_target : (b msi msi' : Bool) (was : ℕ) → same_bool msi msi' ≡ false → target_after b b msi msi' was ≡ cond b (first_target msi') 0
switched_target true msi msi' was e = ap (λ s. cond (not s) (first_target msi') was) e
switched_target false msi msi' was e = refl

pub same_bools : (a b : Bool) → same_bool a b ≡ true → a ≡ b
same_bools true true e = refl
same_bools true false e = cc
same_bools false true e = cc
same_bools false false e = refl

touch-switch : (msi msi' : Bool) (x : InterruptSourceState) → IsIdle x
    → stepped x.source.mode x.source.wire msi msi' x.delegated None Nothing (cond (same_bool msi msi') Untouched Switched) x ≡ cond
    (same_bool msi msi') x (switched msi' x)
touch-switch msi msi' x idle = at (same_bool msi msi') refl
  where
    at : (b : Bool) → same_bool msi msi' ≡ b → stepped x.source.mode x.source.wire msi msi' x.delegated None Nothing (cond b Untouched Switched)
        x ≡ cond b x (switched msi' x)
    at true e = ap (λ n. stepped x.source.mode x.source.wire msi n x.delegated None Nothing Untouched x) (sym (same_bools msi msi' e))
        ∙ step-nothing msi x idle
    at false e = λ i. record {
      source = record {
        mode = x.source.mode;
        wire = x.source.wire;
        pending =
            switched_says x.source.mode msi msi' (rectified x.source.mode x.source.wire) x.source.pending i;
      };
      enabled = same_enable (is_active x.source.mode) x.enabled idle.enabled i;
      target = switched_target (is_active x.source.mode) msi msi' x.target e i;
      delegated = x.delegated;
    }

configured_target : (a b msi : Bool) (t : ℕ) → target_after a b msi msi t ≡ cond b (cond a t (first_target msi)) 0
configured_target a false msi t = refl
configured_target true true true t = refl
configured_target true true false t = refl
configured_target false true msi t = refl

pub step-configure : (mode' : Mode) (msi delegated' : Bool) (x : InterruptSourceState)
    → stepped mode' x.source.wire msi msi delegated' None Nothing Configured x ≡ record (configured msi mode' x) { delegated = delegated' }
step-configure mode' msi delegated' x = λ i. record {
  source = done msi Configured mode' x.source.wire x.source;
  enabled = is_active x.source.mode && is_active mode' && x.enabled;
  target = configured_target (is_active x.source.mode) (is_active mode') msi x.target i;
  delegated = delegated';
}

-- a source becomes inactive without a word of its own
pub step-inactive : (msi delegated' : Bool) (x : InterruptSourceState)
    → stepped Inactive x.source.wire msi msi delegated' None Nothing Untouched x ≡ record (configured msi Inactive x) { delegated = delegated' }
step-inactive msi delegated' x = λ i. record {
  source = record { mode = Inactive; wire = x.source.wire; pending = false };
  enabled = is_active x.source.mode && false && x.enabled;
  target = 0;
  delegated = delegated';
}

-- the register of a source of domain 0 is written
root-config : (b msi : Bool) (v c : ℕ) (x : InterruptSourceState) → IsIdle x → x.source.mode ≡ mode_of c → x.delegated ≡ nat_eq c DELEGATED
    → stepped (mode_of (unwrap_or (when b (root_sourcecfg v)) c)) x.source.wire msi msi
    (nat_eq (unwrap_or (when b (root_sourcecfg v)) c) DELEGATED) None Nothing (cond b Configured Untouched) x
    ≡ cond b (sourcecfg_written false msi v x) x
root-config true msi v c x idle e g = step-configure (mode_of (root_sourcecfg v)) msi (delegates (root_sourcecfg v)) x
root-config false msi v c x idle e g = ap (λ m. stepped m x.source.wire msi msi (nat_eq c DELEGATED) None Nothing Untouched x) (sym e)
    ∙ ap (λ k. stepped x.source.mode x.source.wire msi msi k None Nothing Untouched x) (sym g) ∙ step-nothing msi x idle

-- a register's index is that of a source that is there
pub named_there : (past : Past) (i s : ℕ) → s < suc (sources_in past) → is_register_of past i s ≡ is_number_of i s
named_there past i s low = at (sources_in past) low
  where
    at : (n : ℕ) → s < suc n → (nat_eq i s && is_in_range 1 n s) ≡ (nat_eq i s && nat_lt 0 s)
    at n h = grind (arith, nat_tests)

-- a store to the root domain
pub root_written : (reg : DomainReg) (v : ℕ) (past : Past) (s : ℕ) → s < suc (sources_in past)
    → source_of (Written Root reg v ∷ past) Root s ≡ source_changed false (harts_in past) (delivers_by_msis past Root) reg v s (source_of past Root s)
unfolding newest wire_of
root_written DomainCfg v past s there = source-step (Written Root DomainCfg v) past Root s
    ∙ touch-switch (delivers_by_msis past Root) (is_by_msi (domaincfg_kept v)) (source_of past Root s) (source-idle past Root s)
root_written (SourceCfg i) v past s there =
    source-step (Written Root (SourceCfg i) v) past Root s
    ∙ root-config (is_register_of past i s) (delivers_by_msis past Root) v (root_sourcecfg_of past s) (source_of past Root s)
    (source-idle past Root s) refl refl
    ∙ ap (λ (b : Bool). cond b (sourcecfg_written false (delivers_by_msis past Root) v (source_of past Root s)) (source_of past Root s))
    (named_there past i s there)
root_written (Target i) v past s there = source-step (Written Root (Target i) v) past Root s
    ∙ aimed_if (nat_eq i s) (delivers_by_msis past Root) (target_kept (harts_in past) (delivers_by_msis past Root) v) (source_of past Root s)
    (source-idle past Root s)
root_written reg v past s there = source-step (Written Root reg v) past Root s
    ∙ touch-step (touch reg v s) (delivers_by_msis past Root) (source_of past Root s) (source-idle past Root s)

-- ---- domain 1

pub inactive-stays : (msi : Bool) (x : InterruptSourceState) → IsIdle x → is_active x.source.mode ≡ false → with_deed msi Configured x ≡ x
inactive-stays msi x idle off = λ i. record {
  source = record {
    mode = x.source.mode;
    wire = x.source.wire;
    pending =
        (said_nothing x.source.mode msi (rectified x.source.mode x.source.wire) (rectified x.source.mode x.source.wire) Configured x.source.pending
        off ∙ sym (idle.pending off)) i;
  };
  enabled = x.enabled;
  target = x.target;
  delegated = x.delegated;
}

-- the register of a source of domain 1 is written
child-config : (b delegated msi : Bool) (v c : ℕ) (x : InterruptSourceState) → IsIdle x → x.source.mode ≡ mode_of c → x.delegated ≡ delegated
    → (delegated ≡ false → c ≡ 0)
    → stepped (mode_of (unwrap_or (when (b && delegated) (child_sourcecfg v)) c)) x.source.wire msi msi delegated None Nothing
    (cond b Configured Untouched) x
    ≡ cond b (sourcecfg_written true msi v x) x
child-config false delegated msi v c x idle e g none = ap (λ m. stepped m x.source.wire msi msi delegated None Nothing Untouched x) (sym e)
    ∙ ap (λ k. stepped x.source.mode x.source.wire msi msi k None Nothing Untouched x) (sym g) ∙ step-nothing msi x idle
child-config true true msi v c x idle e g none =
    step-configure (mode_of (child_sourcecfg v)) msi true x
    ∙ ap (λ k. record (configured msi (mode_of (child_sourcecfg v)) x) { delegated = k }) (sym g)
    ∙ sym (ap (λ (k : Bool). cond k (configured msi (mode_of (child_sourcecfg v)) x) x) g)
child-config true false msi v c x idle e g none =
    let off : is_active x.source.mode ≡ false = ap is_active (e ∙ ap mode_of (none refl)) in
    ap (λ m. stepped m x.source.wire msi msi false None Nothing Configured x) (sym e)
    ∙ ap (λ k. stepped x.source.mode x.source.wire msi msi k None Nothing Configured x) (sym g)
    ∙ step-deed msi x Configured idle ∙ inactive-stays msi x idle off
    ∙ sym (ap (λ (k : Bool). cond k (configured msi (mode_of (child_sourcecfg v)) x) x) g)

pub child_written : (reg : DomainReg) (v : ℕ) (past : Past) (s : ℕ) → s < suc (sources_in past)
    → source_of (Written Child reg v ∷ past) Child s ≡ source_changed true (harts_in past) (delivers_by_msis past Child) reg v s
    (source_of past Child s)
unfolding newest wire_of
child_written DomainCfg v past s there = source-step (Written Child DomainCfg v) past Child s
    ∙ touch-switch (delivers_by_msis past Child) (is_by_msi (domaincfg_kept v)) (source_of past Child s) (source-idle past Child s)
child_written (SourceCfg i) v past s there =
    source-step (Written Child (SourceCfg i) v) past Child s
    ∙ child-config (is_register_of past i s) (is_delegated past s) (delivers_by_msis past Child) v (newest (child_told s) past)
    (source_of past Child s) (source-idle past Child s) refl refl (none_undelegated past s)
    ∙ ap (λ (b : Bool). cond b (sourcecfg_written true (delivers_by_msis past Child) v (source_of past Child s)) (source_of past Child s))
    (named_there past i s there)
child_written (Target i) v past s there = source-step (Written Child (Target i) v) past Child s
    ∙ aimed_if (nat_eq i s) (delivers_by_msis past Child) (target_kept (harts_in past) (delivers_by_msis past Child) v) (source_of past Child s)
    (source-idle past Child s)
child_written reg v past s there = source-step (Written Child reg v) past Child s
    ∙ touch-step (touch reg v s) (delivers_by_msis past Child) (source_of past Child s) (source-idle past Child s)

-- ---- what a store to one domain makes of the other

pub root_at_child_written : (reg : DomainReg) (v : ℕ) (past : Past) (s : ℕ) → source_of (Written Child reg v ∷ past) Root s ≡ source_of past Root s
unfolding newest wire_of
root_at_child_written GenMsi v past s = source-step (Written Child GenMsi v) past Root s
    ∙ step-nothing (delivers_by_msis past Root) (source_of past Root s) (source-idle past Root s)
root_at_child_written reg v past s = source-step (Written Child reg v) past Root s
    ∙ step-nothing (delivers_by_msis past Root) (source_of past Root s) (source-idle past Root s)

-- whether a source was and is delegated
child-granted : (was is msi : Bool) (c : ℕ) (x : InterruptSourceState) → IsIdle x → x.source.mode ≡ mode_of c → x.delegated ≡ was
    → (was ≡ false → c ≡ 0)
    → stepped (mode_of (unwrap_or (when (not (was && is)) 0) c)) x.source.wire msi msi is None Nothing Untouched x ≡ granted is msi x
child-granted true true msi c x idle e g none =
    ap (λ m. stepped m x.source.wire msi msi true None Nothing Untouched x) (sym e)
    ∙ ap (λ k. stepped x.source.mode x.source.wire msi msi k None Nothing Untouched x) (sym g) ∙ step-nothing msi x idle
    ∙ sym (ap (λ (k : Bool). cond (same_bool k true) x (record (configured msi Inactive x) { delegated = true })) g)
child-granted false false msi c x idle e g none =
    ap (λ m. stepped m x.source.wire msi msi false None Nothing Untouched x) (sym (e ∙ ap mode_of (none refl)))
    ∙ ap (λ k. stepped x.source.mode x.source.wire msi msi k None Nothing Untouched x) (sym g) ∙ step-nothing msi x idle
    ∙ sym (ap (λ (k : Bool). cond (same_bool k false) x (record (configured msi Inactive x) { delegated = false })) g)
child-granted true false msi c x idle e g none = step-inactive msi false x
    ∙ sym (ap (λ (k : Bool). cond (same_bool k false) x (record (configured msi Inactive x) { delegated = false })) g)
child-granted false true msi c x idle e g none = step-inactive msi true x
    ∙ sym (ap (λ (k : Bool). cond (same_bool k true) x (record (configured msi Inactive x) { delegated = true })) g)

child-kept : (b msi : Bool) (is was : Bool) (kept c c1 : ℕ) (x : InterruptSourceState) → IsIdle x → x.source.mode ≡ mode_of c → x.delegated ≡ was
    → was ≡ nat_eq c1 DELEGATED → is ≡ nat_eq kept DELEGATED → (was ≡ false → c ≡ 0)
    → stepped (mode_of (unwrap_or (when (b && not (was && is)) 0) c)) x.source.wire msi msi (nat_eq (unwrap_or (when b kept) c1) DELEGATED) None
    Nothing Untouched x ≡ cond b (granted is msi x) x
child-kept true msi is was kept c c1 x idle e g w k none =
    ap (λ j. stepped (mode_of (unwrap_or (when (not (was && is)) 0) c)) x.source.wire msi msi j None Nothing Untouched x) (sym k)
    ∙ child-granted was is msi c x idle e g none
child-kept false msi is was kept c c1 x idle e g w k none =
    ap (λ m. stepped m x.source.wire msi msi (nat_eq c1 DELEGATED) None Nothing Untouched x) (sym e)
    ∙ ap (λ j. stepped x.source.mode x.source.wire msi msi j None Nothing Untouched x) (sym w ∙ sym g) ∙ step-nothing msi x idle

pub child_at_root_config : (i v : ℕ) (past : Past) (s : ℕ) → s < suc (sources_in past)
    → source_of (Written Root (SourceCfg i) v ∷ past) Child s ≡ changed_if_named i
    (granted (delegates (root_sourcecfg v)) (delivers_by_msis past Child)) s (source_of past Child s)
unfolding newest wire_of
child_at_root_config i v past s there =
    source-step (Written Root (SourceCfg i) v) past Child s
    ∙ child-kept (is_register_of past i s) (delivers_by_msis past Child) (delegates (root_sourcecfg v)) (is_delegated past s) (root_sourcecfg v)
    (newest (child_told s) past) (root_sourcecfg_of past s) (source_of past Child s) (source-idle past Child s) refl refl refl refl
    (none_undelegated past s)
    ∙ ap (λ (b : Bool). cond b (granted (delegates (root_sourcecfg v)) (delivers_by_msis past Child) (source_of past Child s))
    (source_of past Child s)) (named_there past i s there)

abbrev pub is_config : DomainReg → Bool
is_config (SourceCfg i) = true
is_config reg = false

pub child_at_root_written : (reg : DomainReg) (v : ℕ) (past : Past) (s : ℕ) → is_config reg ≡ false
    → source_of (Written Root reg v ∷ past) Child s ≡ source_of past Child s
unfolding newest wire_of
child_at_root_written (SourceCfg i) v past s e = cc
child_at_root_written reg v past s e = source-step (Written Root reg v) past Child s
    ∙ step-nothing (delivers_by_msis past Child) (source_of past Child s) (source-idle past Child s)
