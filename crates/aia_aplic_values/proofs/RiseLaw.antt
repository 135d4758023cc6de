-- A write makes no rise.
use Rattle.std.proofs.Common.{◌≡◌, ◌≢◌, ℕ, Option, Some, None, Bool, true, false, cond, ◌∷◌, refl}
use Rattle.aia_regs.specs.declared.domain_registers.DomainReg.{DomainReg}
use Rattle.aia_regs.specs.declared.domain_registers.DomainReg.TheVariants.{DomainCfg, SourceCfg}
use Rattle.aia_regs.specs.BitUpdate.{settle}
use Rattle.aia_source.specs.declared.mode.Mode.{Mode}
use Rattle.aia_source.specs.declared.mode.Mode.TheVariants.{Inactive, Detached, RisingEdge, FallingEdge, LevelHigh, LevelLow}
use Rattle.aia_source.specs.Wired.{SourceDeed, is_active, is_level, detached_says, edge_says, says}
use Rattle.aia_source.specs.Wired.SourceDeed.{LevelGiven, Set, Cleared, Claimed, Forwarded, Configured, Switched, Untouched}
use Rattle.aia_source.specs.Registers.{domaincfg_kept, is_by_msi, touch, deed_of_touch, same_bool}
use Rattle.aia_source.specs.declared.touch.Touch.{Touch}
use Rattle.aia_source.specs.declared.touch.Touch.TheVariants.{SetPending, ClearPending, SetEnable, ClearEnable}
use Rattle.aia_regs.specs.Top.{Pair}
use Rattle.aia_model.specs.declared.domain_name.DomainName.{DomainName}
use Rattle.aia_model.specs.Act.{Past, newest}
use Rattle.aia_model.specs.declared.domain_name.DomainName.TheVariants.{Root, Child}
use Rattle.aia_model.specs.Act.Act.{Written}
use Rattle.aia_aplic_values.proofs.Steps.{source-idle}
use Rattle.aia_model.specs.SourceOf.{is_register_of, mode, is_active_in, input, delivers_by_msis, deed_of_write, deed, pending, top_in}

-- ---- a sourcecfg at an active source

stays_at : (m : Mode) (msi before after was b : Bool) → is_active m ≡ true → is_level m ≡ false
    → settle (says m msi before after (cond b Configured Untouched)) was ≡ was
stays_at Inactive msi before after was b new l = cc
stays_at LevelHigh msi before after was b new l = cc
stays_at LevelLow msi before after was b new l = cc
stays_at Detached msi before after was true new l = refl
stays_at RisingEdge msi before after was true new l = refl
stays_at FallingEdge msi before after was true new l = refl
stays_at Detached msi before after was false new l = refl
stays_at RisingEdge msi before after was false new l = refl
stays_at FallingEdge msi before after was false new l = refl

pub stays : (past : Past) (d : DomainName) (i v s : ℕ) → is_active_in past d s ≡ true → is_active_in (Written d (SourceCfg i) v ∷ past) d s ≡ true
    → is_level (mode (Written d (SourceCfg i) v ∷ past) d s) ≡ false
    → pending (Written d (SourceCfg i) v ∷ past) d s ≡ pending past d s
unfolding pending
stays past Root i v s old new l = stays_at (mode (Written Root (SourceCfg i) v ∷ past) Root s) (delivers_by_msis past Root) (input past Root s)
    (input (Written Root (SourceCfg i) v ∷ past) Root s) (pending past Root s) (is_register_of past i s) new l
stays past Child i v s old new l = stays_at (mode (Written Child (SourceCfg i) v ∷ past) Child s) (delivers_by_msis past Child)
    (input past Child s) (input (Written Child (SourceCfg i) v ∷ past) Child s) (pending past Child s) (is_register_of past i s) new l

-- ---- a deed that does not ask

-- a deed that can make a source pending whose mode is no level
abbrev asks : SourceDeed → Bool
asks LevelGiven = true
asks Set = true
asks does = false

detached_unasked : (does : SourceDeed) (was : Bool) → asks does ≡ false → was ≡ false → settle (detached_says does) was ≡ false
detached_unasked LevelGiven was e none = cc
detached_unasked Set was e none = cc
detached_unasked Cleared was e none = refl
detached_unasked Claimed was e none = refl
detached_unasked Forwarded was e none = refl
detached_unasked Configured was e none = none
detached_unasked Switched was e none = none
detached_unasked Untouched was e none = none

edge_unasked : (before after : Bool) (does : SourceDeed) (was : Bool) → asks does ≡ false → was ≡ false
    → settle (edge_says before after does) was ≡ false
edge_unasked before after LevelGiven was e none = cc
edge_unasked before after does was e none = detached_unasked does was e none

unasked_at : (m : Mode) (msi before after : Bool) (does : SourceDeed) (was : Bool) → asks does ≡ false → is_level m ≡ false → was ≡ false
    → settle (says m msi before after does) was ≡ false
unasked_at Inactive msi before after does was e l none = refl
unasked_at Detached msi before after does was e l none = detached_unasked does was e none
unasked_at RisingEdge msi before after does was e l none = edge_unasked before after does was e none
unasked_at FallingEdge msi before after does was e l none = edge_unasked before after does was e none
unasked_at LevelHigh msi before after does was e l none = cc
unasked_at LevelLow msi before after does was e l none = cc

-- ---- a sourcecfg at an inactive source

-- nothing is pending before, since the source is inactive, and its sourcecfg does not ask
begins_at : (m : Mode) (msi before after was b : Bool) → was ≡ false → is_level m ≡ false
    → settle (says m msi before after (cond b Configured Untouched)) was ≡ false
begins_at m msi before after was true none l = unasked_at m msi before after Configured was refl l none
begins_at m msi before after was false none l = unasked_at m msi before after Untouched was refl l none

pub begins : (past : Past) (d : DomainName) (i v s : ℕ) → is_active_in past d s ≡ false
    → is_level (mode (Written d (SourceCfg i) v ∷ past) d s) ≡ false → pending (Written d (SourceCfg i) v ∷ past) d s ≡ false
unfolding newest pending
begins past Root i v s old l = begins_at (mode (Written Root (SourceCfg i) v ∷ past) Root s) (delivers_by_msis past Root) (input past Root s)
    (input (Written Root (SourceCfg i) v ∷ past) Root s) (pending past Root s) (is_register_of past i s) ((source-idle past Root s).pending old) l
begins past Child i v s old l = begins_at (mode (Written Child (SourceCfg i) v ∷ past) Child s) (delivers_by_msis past Child) (input past Child s)
    (input (Written Child (SourceCfg i) v ∷ past) Child s) (pending past Child s) (is_register_of past i s) ((source-idle past Child s).pending old) l

-- ---- a store that does not ask

unasked_touch : (t : Option Touch) → t ≢ Some SetPending → asks (deed_of_touch t) ≡ false
unasked_touch None e = refl
unasked_touch (Some SetPending) e = absurd (e refl)
unasked_touch (Some ClearPending) e = refl
unasked_touch (Some SetEnable) e = refl
unasked_touch (Some ClearEnable) e = refl

unasked_write : (past : Past) (d : DomainName) (reg : DomainReg) (v s : ℕ) → touch reg v s ≢ Some SetPending
    → asks (deed_of_write past d reg v s) ≡ false
unasked_write past d (SourceCfg i) v s e = at (is_register_of past i s)
  where
    at : (b : Bool) → asks (cond b Configured Untouched) ≡ false
    at true = refl
    at false = refl
unasked_write past d DomainCfg v s e = at (same_bool (delivers_by_msis past d) (is_by_msi (domaincfg_kept v)))
  where
    at : (b : Bool) → asks (cond b Untouched Switched) ≡ false
    at true = refl
    at false = refl
unasked_write past d reg v s e = unasked_touch (touch reg v s) e

unasked_deed : (shown : ℕ → Option Pair) (past : Past) (e d : DomainName) (reg : DomainReg) (v s : ℕ) → touch reg v s ≢ Some SetPending
    → asks (deed shown past (Written e reg v) d s) ≡ false
unasked_deed shown past Root Root reg v s quiet = unasked_write past Root reg v s quiet
unasked_deed shown past Root Child reg v s quiet = refl
unasked_deed shown past Child Root reg v s quiet = refl
unasked_deed shown past Child Child reg v s quiet = unasked_write past Child reg v s quiet

pub unasked : (past : Past) (e d : DomainName) (reg : DomainReg) (v s : ℕ) → touch reg v s ≢ Some SetPending
    → is_level (mode (Written e reg v ∷ past) d s) ≡ false → pending past d s ≡ false → pending (Written e reg v ∷ past) d s ≡ false
unfolding pending
unasked past e d reg v s quiet l none = unasked_at (mode (Written e reg v ∷ past) d s) (delivers_by_msis past d) (input past d s)
    (input (Written e reg v ∷ past) d s) (deed (top_in (pending past d) past d) past (Written e reg v) d s) (pending past d s)
    (unasked_deed (top_in (pending past d) past d) past e d reg v s quiet) l none
