-- What each act makes of a source in a domain.
use Rattle.std.proofs.Common.{◌≡◌, ℕ, Bool, true, false, not, cond, ◌&&◌, ◌||◌, [], ◌∷◌, Option, Some, None, unwrap_or, refl, sym, ap}
use Rattle.std.proofs.lemmas.Bool.{cond-true}
use Rattle.aia_regs.specs.BitUpdate.{BitUpdate, settle}
use Rattle.aia_regs.specs.BitUpdate.BitUpdate.{Ask, Clear, Nothing}
use Rattle.aia_source.specs.declared.mode.Mode.{Mode}
use Rattle.aia_source.specs.declared.mode.Mode.TheVariants.{Inactive, Detached, RisingEdge, FallingEdge, LevelHigh, LevelLow}
use Rattle.aia_source.specs.Wired.{SourceDeed, done, is_active, rectified, says}
use Rattle.aia_source.specs.Wired.SourceDeed.{Untouched}
use Rattle.aia_source.specs.Registers.{first_target, same_bool}
use Rattle.aia_domain.specs.InterruptSource.{InterruptSourceState, with_deed, with_enable, with_target}
use Rattle.aia_model.specs.declared.domain_name.DomainName.{DomainName}
use Rattle.aia_model.specs.Act.{Act, Past, when}
use Rattle.aia_model.specs.SourceOf.{wire_of, is_delegated, mode, is_active_in, delivers_by_msis, enable_said, enabled, target_told, target, deed, pending, top_in}
use Rattle.aia_aplic_values.specs.Side.{source_of}

-- the target that a step leaves, given whether the source was and is active, the delivery mode before and after, and what was
-- kept
abbrev pub target_after : Bool → Bool → Bool → Bool → ℕ → ℕ
target_after before after msi msi' kept = cond (not after) 0 (cond (not before || not (same_bool msi msi')) (first_target msi') kept)

-- what a step makes of what was kept, by what the act says
abbrev pub stepped : Mode → Bool → Bool → Bool → Bool → Option ℕ → BitUpdate → SourceDeed → InterruptSourceState → InterruptSourceState
stepped mode' wire' msi msi' delegated' aim asked does x = record {
  source = done msi does mode' wire' x.source;
  enabled = is_active x.source.mode && is_active mode' && settle asked x.enabled;
  target = target_after (is_active x.source.mode) (is_active mode') msi msi' (unwrap_or aim x.target);
  delegated = delegated';
}

pub source-step : (a : Act) (past : Past) (d : DomainName) (s : ℕ) →
    source_of (a ∷ past) d s ≡ stepped (mode (a ∷ past) d s) (wire_of (a ∷ past) s) (delivers_by_msis past d) (delivers_by_msis (a ∷ past) d)
    (is_delegated (a ∷ past) s) (target_told d s past a) (enable_said d s a) (deed (top_in (pending past d) past d) past a d s)
    (source_of past d s)
unfolding pending enabled target
source-step a past d s = refl

-- a source that isn't active holds nothing
pub record IsIdle (x : InterruptSourceState) : Type 0 where
  pub pending : is_active x.source.mode ≡ false → x.source.pending ≡ false
  pub enabled : is_active x.source.mode ≡ false → x.enabled ≡ false
  pub target : is_active x.source.mode ≡ false → x.target ≡ 0

pub said_nothing : (m : Mode) (msi before after : Bool) (does : SourceDeed) (was : Bool) → is_active m ≡ false
    → settle (says m msi before after does) was ≡ false
said_nothing Inactive msi before after does was e = refl
said_nothing Detached msi before after does was e = cc
said_nothing RisingEdge msi before after does was e = cc
said_nothing FallingEdge msi before after does was e = cc
said_nothing LevelHigh msi before after does was e = cc
said_nothing LevelLow msi before after does was e = cc

pub source-idle : (past : Past) (d : DomainName) (s : ℕ) → IsIdle (source_of past d s)
unfolding pending enabled target
source-idle [] d s = record { pending = λ e. refl; enabled = λ e. refl; target = λ e. refl }
source-idle (a ∷ past) d s = record {
  pending = λ e. said_nothing (mode (a ∷ past) d s) _ _ _ _ _ e;
  enabled = λ e. no_enable (is_active_in past d s) (is_active_in (a ∷ past) d s) (enable_said d s a) (enabled past d s) e;
  target = λ e. cond-true _ _ _ (ap not e);
}
  where
    no_enable : (before after : Bool) (w : BitUpdate) (was : Bool) → after ≡ false → (before && after && settle w was) ≡ false
    no_enable true true w was e = cc
    no_enable true false w was e = refl
    no_enable false after w was e = refl

-- ---- acts that leave mode, wire and delivery mode

pub same_mode_says : (m : Mode) (msi r : Bool) (was : Bool) → (is_active m ≡ false → was ≡ false) → settle (says m msi r r Untouched) was ≡ was
same_mode_says Inactive msi r was idle = sym (idle refl)
same_mode_says Detached msi r was idle = refl
same_mode_says RisingEdge msi r was idle = refl
same_mode_says FallingEdge msi r was idle = refl
same_mode_says LevelHigh msi r was idle = refl
same_mode_says LevelLow msi r was idle = refl

pub same_enable : (b : Bool) (was : Bool) → (b ≡ false → was ≡ false) → (b && b && was) ≡ was
same_enable true was idle = refl
same_enable false was idle = sym (idle refl)

pub same_target : (b msi : Bool) (was : ℕ) → (b ≡ false → was ≡ 0) → target_after b b msi msi was ≡ was
same_target true true was idle = refl
same_target true false was idle = refl
same_target false msi was idle = sym (idle refl)

-- an act that says nothing
pub step-nothing : (msi : Bool) (x : InterruptSourceState) → IsIdle x
    → stepped x.source.mode x.source.wire msi msi x.delegated None Nothing Untouched x ≡ x
step-nothing msi x idle = λ i. record {
  source = record {
    mode = x.source.mode;
    wire = x.source.wire;
    pending =
        same_mode_says x.source.mode msi (rectified x.source.mode x.source.wire) x.source.pending idle.pending i;
  };
  enabled = same_enable (is_active x.source.mode) x.enabled idle.enabled i;
  target = same_target (is_active x.source.mode) msi x.target idle.target i;
  delegated = x.delegated;
}

-- an act that is about pending alone
pub step-deed : (msi : Bool) (x : InterruptSourceState) (does : SourceDeed) → IsIdle x
    → stepped x.source.mode x.source.wire msi msi x.delegated None Nothing does x ≡ with_deed msi does x
step-deed msi x does idle = λ i. record {
  source = done msi does x.source.mode x.source.wire x.source;
  enabled = same_enable (is_active x.source.mode) x.enabled idle.enabled i;
  target = same_target (is_active x.source.mode) msi x.target idle.target i;
  delegated = x.delegated;
}

enable_set : (e b was : Bool) → (b && b && settle (cond e Ask Clear) was) ≡ (b && e)
enable_set true true was = refl
enable_set false true was = refl
enable_set e false was = refl

pub step-enable : (e msi : Bool) (x : InterruptSourceState) → IsIdle x
    → stepped x.source.mode x.source.wire msi msi x.delegated None (cond e Ask Clear) Untouched x ≡ with_enable e x
step-enable e msi x idle = λ i. record {
  source = record {
    mode = x.source.mode;
    wire = x.source.wire;
    pending =
        same_mode_says x.source.mode msi (rectified x.source.mode x.source.wire) x.source.pending idle.pending i;
  };
  enabled = enable_set e (is_active x.source.mode) x.enabled i;
  target = same_target (is_active x.source.mode) msi x.target idle.target i;
  delegated = x.delegated;
}

aimed_target : (b msi : Bool) (new : ℕ) → target_after b b msi msi new ≡ cond b new 0
aimed_target true true new = refl
aimed_target true false new = refl
aimed_target false msi new = refl

step-aim : (msi : Bool) (target : ℕ) (x : InterruptSourceState) → IsIdle x
    → stepped x.source.mode x.source.wire msi msi x.delegated (Some target) Nothing Untouched x ≡ with_target target x
step-aim msi target x idle = λ i. record {
  source = record {
    mode = x.source.mode;
    wire = x.source.wire;
    pending =
        same_mode_says x.source.mode msi (rectified x.source.mode x.source.wire) x.source.pending idle.pending i;
  };
  enabled = same_enable (is_active x.source.mode) x.enabled idle.enabled i;
  target = aimed_target (is_active x.source.mode) msi target i;
  delegated = x.delegated;
}

pub done_if : (b msi : Bool) (does : SourceDeed) (x : InterruptSourceState) → IsIdle x
    → stepped x.source.mode x.source.wire msi msi x.delegated None Nothing (cond b does Untouched) x ≡ cond b (with_deed msi does x) x
done_if true msi does x idle = step-deed msi x does idle
done_if false msi does x idle = step-nothing msi x idle

pub aimed_if : (b msi : Bool) (target : ℕ) (x : InterruptSourceState) → IsIdle x
    → stepped x.source.mode x.source.wire msi msi x.delegated (when b target) Nothing Untouched x ≡ cond b (with_target target x) x
aimed_if true msi target x idle = step-aim msi target x idle
aimed_if false msi target x idle = step-nothing msi x idle
