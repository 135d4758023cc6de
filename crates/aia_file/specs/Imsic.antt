-- All interrupt files of a machine.
use Rattle.std.specs.Prelude.{ℕ, ◌+◌, ◌*◌, ◌<◌, ◌≤◌, List, [], slice_index_or, slice_set}
use Rattle.aia_file.specs.InterruptFile.{SameFile, empty_file}
use Rattle.aia_file.specs.FileState.{FileState, shown}
use Rattle.aia_file.specs.declared.spot.Spot.{Spot}
use Rattle.aia_file.specs.declared.spot.Spot.TheVariants.{MachineFile, SupervisorFile, GuestFile, Nowhere}

-- The harts, the guest files of each, and all files, hart by hart.
pub record ImsicState : Type 0 where
  pub harts : ℕ
  pub guests : ℕ
  pub files : List FileState

-- Whether a file is there: its hart is, and a guest file has a number from 1 to the guest files of
-- a hart.
abbrev pub IsThere : ImsicState → Spot → Type 0
IsThere h (MachineFile hart) = hart < h.harts
IsThere h (SupervisorFile hart) = hart < h.harts
IsThere h (GuestFile hart file) = (hart < h.harts) × (1 ≤ file) × (file ≤ h.guests)
IsThere h Nowhere = ⊥

-- Where a file is kept: a hart's machine-level file, its supervisor file, and its guest files
-- follow one another.
abbrev pub place_of : ImsicState → Spot → ℕ
place_of h (MachineFile hart) = hart * (h.guests + 2)
place_of h (SupervisorFile hart) = hart * (h.guests + 2) + 1
place_of h (GuestFile hart file) = hart * (h.guests + 2) + 1 + file
place_of h Nowhere = 0

-- No file is kept past the last one; this stands there.
abbrev pub no_file : FileState
no_file = record { n = 0; pending = []; enabled = []; threshold = 0; delivery = 0 }

-- The file at a place that is there.
abbrev pub file_at : ImsicState → Spot → FileState
file_at h spot = slice_index_or h.files (place_of h spot) no_file

-- The same files, but for the one at that place.
abbrev pub with_file : ImsicState → Spot → FileState → ImsicState
with_file h spot file = record h { files = slice_set h.files (place_of h spot) file }

-- Every file that is there is empty, and has the identities 1 to n.
pub record AreEmpty (h : ImsicState) (n : ℕ) : Type 0 where
  pub each : (spot : Spot) → IsThere h spot → SameFile (shown (file_at h spot)) (empty_file n)
