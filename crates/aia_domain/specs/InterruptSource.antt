-- What a domain keeps of one source, and what is done to it.
-- AIA 1.0, APLIC, where no comment names another source.
use Rattle.std.specs.Prelude.{◌≡◌, ℕ, Bool, true, false, not, ◌&&◌, nat_eq, nat_le, if◌then◌else◌, ◌-◌, List, [], length, slice_get, get_or, Option, Some, None, option_map}
use Rattle.std.specs.Option.{option_map_or}
use Rattle.aia_source.specs.declared.mode.Mode.{Mode}
use Rattle.aia_source.specs.declared.mode.Mode.TheVariants.{Inactive}
use Rattle.aia_source.specs.Wired.{WiredState, SourceDeed, new_wired, done, is_active, rectified}
use Rattle.aia_source.specs.Wired.SourceDeed.{LevelGiven, Set, Cleared, Claimed, Forwarded, Configured, Switched}
use Rattle.aia_source.specs.declared.kept.TheConstants.{DELEGATED}
use Rattle.aia_source.specs.Registers.{root_sourcecfg, child_sourcecfg, delegates, mode_of, mode_number, first_target, target_kept, same_bool, is_number_of}
use Rattle.aia_source.specs.declared.touch.Touch.{Touch}
use Rattle.aia_source.specs.declared.touch.Touch.TheVariants.{SetPending, ClearPending, SetEnable, ClearEnable}
use Rattle.aia_regs.specs.Top.{Pair, hart_of, pair_if}
use Rattle.aia_domain.specs.Order.{ordered}
use Rattle.aia_domain.specs.declared.interrupt_source.Change.{Change}
use Rattle.aia_domain.specs.declared.interrupt_source.Change.TheVariants as changes
use Rattle.aia_domain.specs.declared.interrupt_source.SourceBit.{SourceBit}
use Rattle.aia_domain.specs.declared.interrupt_source.SourceBit.TheVariants as bits

-- ---- one source

-- The source, its enable bit, its target, and whether the root domain delegates it to the child
-- domain.
pub record InterruptSourceState : Type 0 where
  pub source : WiredState
  pub enabled : Bool
  pub target : ℕ
  pub delegated : Bool

-- A source as a domain begins. Profile.
abbrev pub new_source : InterruptSourceState
new_source = record { source = new_wired; enabled = false; target = 0; delegated = false }

-- A deed that leaves its mode and its wire.
abbrev pub with_deed : Bool → SourceDeed → InterruptSourceState → InterruptSourceState
with_deed msi deed x = record x { source = done msi deed x.source.mode x.source.wire x.source }

-- Its enable bit is written; that of an inactive source is read-only zero.
abbrev pub with_enable : Bool → InterruptSourceState → InterruptSourceState
with_enable b x = record x { enabled = is_active x.source.mode && b }

-- A store touches its pending bit, its enable bit, or neither.
abbrev pub touched : Bool → Option Touch → InterruptSourceState → InterruptSourceState
touched msi None x = x
touched msi (Some SetPending) x = with_deed msi Set x
touched msi (Some ClearPending) x = with_deed msi Cleared x
touched msi (Some SetEnable) x = with_enable true x
touched msi (Some ClearEnable) x = with_enable false x

-- A mode is written: what was inactive begins with no enable and the first target, and what becomes
-- inactive has none.
-- Profile: enable and target stay from one active mode to another.
abbrev pub configured : Bool → Mode → InterruptSourceState → InterruptSourceState
configured msi mode x = record x {
  source = done msi Configured mode x.source.wire x.source;
  enabled = is_active x.source.mode && is_active mode && x.enabled;
  target =
      if is_active mode then (if is_active x.source.mode then x.target else first_target msi)
      else 0;
}

-- The domain begins to deliver by MSIs, or directly. Profile.
abbrev pub switched : Bool → InterruptSourceState → InterruptSourceState
switched msi x = record x {
  source = done msi Switched x.source.mode x.source.wire x.source;
  target = if is_active x.source.mode then first_target msi else 0;
}

-- It gets a target; that of an inactive source is read-only zero.
abbrev pub with_target : ℕ → InterruptSourceState → InterruptSourceState
with_target target x = record x { target = if is_active x.source.mode then target else 0 }

-- Its target is written.
abbrev pub aimed : ℕ → Bool → ℕ → InterruptSourceState → InterruptSourceState
aimed harts msi v x = with_target (target_kept harts msi v) x

-- Its sourcecfg is written: in the root domain, which may delegate it; in the child domain, where
-- it counts only for a delegated source.
abbrev pub sourcecfg_written : Bool → Bool → ℕ → InterruptSourceState → InterruptSourceState
sourcecfg_written false msi v x =
    record (configured msi (mode_of (root_sourcecfg v)) x)
    { delegated = delegates (root_sourcecfg v) }
sourcecfg_written true msi v x =
    if x.delegated then configured msi (mode_of (child_sourcecfg v)) x else x

-- The child domain gets it or loses it: where that is a change it is inactive then.
abbrev pub granted : Bool → Bool → InterruptSourceState → InterruptSourceState
granted given msi x =
    if same_bool x.delegated given then x
    else record (configured msi Inactive x) { delegated = given }

-- Its wire gets a level.
abbrev pub wired : Bool → Bool → InterruptSourceState → InterruptSourceState
wired msi level x = record x { source = done msi LevelGiven x.source.mode level x.source }

-- What a change makes of it, in a domain that is a leaf or not, of so many harts, that delivers by
-- MSIs or directly.
abbrev pub changed_by : Change → Bool → ℕ → Bool → InterruptSourceState → InterruptSourceState
changed_by (changes.Touch touch) leaf harts msi x = touched msi (Some touch) x
changed_by (changes.Configure v) leaf harts msi x = sourcecfg_written leaf msi v x
changed_by (changes.Target v) leaf harts msi x = aimed harts msi v x
changed_by (changes.Aim target) leaf harts msi x = with_target target x
changed_by (changes.Grant given) leaf harts msi x = granted given msi x
changed_by (changes.Wire level) leaf harts msi x = wired msi level x
changed_by changes.Claim leaf harts msi x = with_deed false Claimed x
changed_by changes.Forward leaf harts msi x = with_deed true Forwarded x

-- ---- what registers show of it

-- Its sourcecfg: in the root domain, where that delegates it, DELEGATED; else the mode's number.
abbrev pub sourcecfg_shown : Bool → InterruptSourceState → ℕ
sourcecfg_shown leaf x = if not leaf && x.delegated then DELEGATED else mode_number x.source.mode

-- Its bit of setip, in_clrip and setie.
abbrev pub bit_shown : SourceBit → InterruptSourceState → Bool
bit_shown bits.Pending x = x.source.pending
bit_shown bits.Input x = rectified x.source.mode x.source.wire
bit_shown bits.Enable x = x.enabled

-- Whether it is pending and enabled.
abbrev pub waits : InterruptSourceState → Bool
waits x = x.source.pending && x.enabled

-- Its pair of priority and number, where it waits and is aimed at the hart.
abbrev pub waiting_pair : ℕ → ℕ → InterruptSourceState → Option Pair
waiting_pair hart s x = pair_if (waits x && nat_eq (hart_of x.target) hart) x.target s

-- ---- all sources, by their numbers; number 0, which is no source, has a place that stays inactive

-- Each member of a list is changed by its place: a source by its number. Vocabulary.
abbrev pub EachAt : {A : Type 0} → List A → List A → (ℕ → A → A) → Type 0
EachAt old new change = (i : ℕ) → slice_get new i ≡ option_map (change i) (slice_get old i)

abbrev pub EachSource : List InterruptSourceState → List InterruptSourceState
    → (ℕ → InterruptSourceState → InterruptSourceState) → Type 0
EachSource old new change = EachAt old new change

-- One source is changed.
abbrev pub changed_at : ℕ → (InterruptSourceState → InterruptSourceState) → ℕ
    → InterruptSourceState → InterruptSourceState
changed_at at change s x = if nat_eq at s then change x else x

-- The same, where number 0 names no source.
abbrev pub changed_if_named : ℕ → (InterruptSourceState → InterruptSourceState) → ℕ
    → InterruptSourceState → InterruptSourceState
changed_if_named at change s x = if is_number_of at s then change x else x

-- The delivery mode of the domain is now this one.
abbrev pub all_switched : Bool → ℕ → InterruptSourceState → InterruptSourceState
all_switched msi s x = switched msi x

-- What is kept of a source that is there.
abbrev pub source_at : List InterruptSourceState → ℕ → InterruptSourceState
source_at sources s = get_or sources s new_source

-- What is shown of a source by its number; one that isn't there shows nothing.
abbrev pub bit_at_source : List InterruptSourceState → SourceBit → ℕ → Bool
bit_at_source sources which s = option_map_or (bit_shown which) (slice_get sources s) false

abbrev pub waits_at : List InterruptSourceState → ℕ → Bool
waits_at sources s = option_map_or waits (slice_get sources s) false

-- The pair of a source by its number, where it waits and is aimed at the hart.
abbrev pub waiting_pair_at : List InterruptSourceState → ℕ → ℕ → Option Pair
waiting_pair_at sources hart s = waiting_pair hart s (source_at sources s)

-- The pairs of a hart's list, in rising order: in direct delivery those of the sources that wait
-- and are aimed at it; by MSIs none.
-- "Interrupt delivery directly by the APLIC". Profile: none by MSIs.
abbrev pub pairs_for : Bool → List InterruptSourceState → ℕ → List Pair
pairs_for msi sources hart =
    if msi then [] else ordered (waiting_pair_at sources hart) 1 (length sources - 1)

-- The same in a domain of so many harts: none for a hart that isn't there.
abbrev pub candidates_of : ℕ → Bool → List InterruptSourceState → ℕ → List Pair
candidates_of harts msi sources hart =
    if nat_le harts hart then [] else pairs_for msi sources hart

-- The sourcecfg of a source by its number, whether it is active, and its target: 0, or false, of
-- one that isn't there.
abbrev pub sourcecfg_at : List InterruptSourceState → Bool → ℕ → ℕ
sourcecfg_at sources leaf s = option_map_or (sourcecfg_shown leaf) (slice_get sources s) 0

abbrev pub is_active_at : List InterruptSourceState → ℕ → Bool
is_active_at sources s =
    option_map_or (λ (x : InterruptSourceState). is_active x.source.mode) (slice_get sources s)
    false

abbrev pub target_at : List InterruptSourceState → ℕ → ℕ
target_at sources s = option_map_or (λ (x : InterruptSourceState). x.target) (slice_get sources s) 0
