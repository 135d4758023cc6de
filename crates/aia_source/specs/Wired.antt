-- One wired source in one domain of an APLIC: what becomes of its pending bit.
-- AIA 1.0, APLIC, where no comment names another source; a heading of that chapter is named without
-- it.
use Rattle.std.specs.Prelude.{◌≡◌, Bool, true, false, not, ◌&&◌, if◌then◌else◌}
use Rattle.aia_regs.specs.BitUpdate.{BitUpdate, settle}
use Rattle.aia_regs.specs.BitUpdate.BitUpdate.{Ask, Clear, Nothing}
use Rattle.aia_source.specs.declared.mode.Mode.{Mode}
use Rattle.aia_source.specs.declared.mode.Mode.TheVariants.{Inactive, Detached, RisingEdge, FallingEdge, LevelHigh, LevelLow}

-- What can be done about a source in a domain. Vocabulary.
pub data SourceDeed : Type 0 where
  LevelGiven : SourceDeed  -- its wire gets a level
  Set : SourceDeed  -- setip, or a register that takes its number, asks for it
  Cleared : SourceDeed  -- in_clrip, or a register that takes its number, clears it
  Claimed : SourceDeed  -- a load of claimi shows it
  Forwarded : SourceDeed  -- its MSI is sent
  Configured : SourceDeed  -- its sourcecfg is written
  Switched : SourceDeed  -- the domain's delivery mode changes
  Untouched : SourceDeed

-- Whether a source is active in the domain.
abbrev pub is_active : Mode → Bool
is_active Inactive = false
is_active mode = true

-- Whether a source is active in a level mode.
abbrev pub is_level : Mode → Bool
is_level LevelHigh = true
is_level LevelLow = true
is_level mode = false

-- The rectified input, by the mode and the level of the wire.
-- Profile: it is low for an inactive and a detached source.
abbrev pub rectified : Mode → Bool → Bool
rectified Inactive wire = false
rectified Detached wire = false
rectified RisingEdge wire = wire
rectified FallingEdge wire = not wire
rectified LevelHigh wire = wire
rectified LevelLow wire = not wire

-- ---- the table of pending bits: what a deed says of it, by the mode that the source has after it
-- "Precise effects on interrupt-pending bits". Profile: what a write of sourcecfg and a change of
-- the delivery mode say.

-- Detached: registers ask, and registers, a claim and an MSI clear.
abbrev pub detached_says : SourceDeed → BitUpdate
detached_says Set = Ask
detached_says Cleared = Clear
detached_says Claimed = Clear
detached_says Forwarded = Clear
detached_says deed = Nothing

-- Edge: as detached, and a rise of the rectified input asks, given the input before and after.
abbrev pub edge_says : Bool → Bool → SourceDeed → BitUpdate
edge_says before after LevelGiven = if not before && after then Ask else Nothing
edge_says before after deed = detached_says deed

-- Level: a rise asks and a fall clears; registers are heard only where the domain delivers by MSIs,
-- and ask only while the input is high; a claim leaves it, an MSI clears it; a write of sourcecfg
-- and a change of delivery go by the input.
abbrev pub level_says : Bool → Bool → Bool → SourceDeed → BitUpdate
level_says msi before after LevelGiven =
    if before then (if after then Nothing else Clear) else (if after then Ask else Nothing)
level_says msi before after Set = if msi && after then Ask else Nothing
level_says msi before after Cleared = if msi then Clear else Nothing
level_says msi before after Forwarded = Clear
level_says msi before after Configured = if after then Ask else Clear
level_says msi before after Switched = if after then Ask else Clear
level_says msi before after deed = Nothing

-- By mode, whether the domain delivers by MSIs, and the rectified input before and after: an
-- inactive source is never pending, whatever is done.
abbrev pub says : Mode → Bool → Bool → Bool → SourceDeed → BitUpdate
says Inactive msi before after deed = Clear
says Detached msi before after deed = detached_says deed
says RisingEdge msi before after deed = edge_says before after deed
says FallingEdge msi before after deed = edge_says before after deed
says LevelHigh msi before after deed = level_says msi before after deed
says LevelLow msi before after deed = level_says msi before after deed

-- ---- a source

-- A source as it stands: its mode, the level of its wire, and whether it is pending.
pub record WiredState : Type 0 where
  pub mode : Mode
  pub wire : Bool
  pub pending : Bool

-- A source as a domain begins. Profile: inactive, with a low wire.
abbrev pub new_wired : WiredState
new_wired = record { mode = Inactive; wire = false; pending = false }

-- What a deed makes of a source that has this mode and wire from then on.
abbrev pub done : Bool → SourceDeed → Mode → Bool → WiredState → WiredState
done msi deed mode wire s = record {
  mode = mode;
  wire = wire;
  pending = settle (says mode msi (rectified s.mode s.wire) (rectified mode wire) deed) s.pending;
}

-- In a level mode a source is pending exactly where its rectified input is high. A law says so of
-- direct delivery; by MSIs a forward clears the bit while the input stays high.
abbrev pub IsLawful : WiredState → Type 0
IsLawful s = is_level s.mode ≡ true → s.pending ≡ rectified s.mode s.wire
