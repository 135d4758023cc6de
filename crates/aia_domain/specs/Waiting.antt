-- What is kept of a domain's sources beside them: which wait, in order. Vocabulary.
use Rattle.std.specs.Prelude.{◌≡◌, ℕ, suc, ◌-◌, ◌<◌, Bool, true, false, All, ◌&&◌, nat_eq, is_some, if◌then◌else◌, List, [], length, slice_get, Option, Some, None}
use Rattle.std.specs.Option.{option_map_or}
use Rattle.aia_word.specs.Sets.{is_in}
use Rattle.aia_regs.specs.Top.{Pair, hart_of, priority_of}
use Rattle.aia_domain.specs.Order.{CandidatesState, put_if, out_if}
use Rattle.aia_domain.specs.declared.interrupt_source.DirectAim.{DirectAim}
use Rattle.aia_domain.specs.InterruptSource.{InterruptSourceState, new_source, waits, waits_at, pairs_for}

-- The sources of a domain, whether it is a leaf, how many harts there are, and whether it delivers
-- by MSIs.
pub record SourcesState : Type 0 where
  pub leaf : Bool
  pub harts : ℕ
  pub msi : Bool
  pub sources : List InterruptSourceState

-- How they begin: all inactive, in a domain that delivers directly. Profile.
pub record IsNewSources (source_count hart_count : ℕ) (is_leaf : Bool) (x : SourcesState)
    : Type 0 where
  pub leaf : x.leaf ≡ is_leaf
  pub harts : x.harts ≡ hart_count
  pub msi : x.msi ≡ false
  pub count : length x.sources ≡ suc source_count
  pub each : All (λ x. x ≡ new_source) x.sources

-- Where a source that waits is aimed, and with which priority.
abbrev pub aim_of : InterruptSourceState → Option DirectAim
aim_of x =
    if waits x then Some (record { hart = hart_of x.target; priority = priority_of x.target })
    else None

-- The same of a source by its number; one that isn't there does not wait.
abbrev pub aim_at : List InterruptSourceState → ℕ → Option DirectAim
aim_at sources s = option_map_or aim_of (slice_get sources s) None

-- The pair of a source with such an aim, where it is at the hart.
abbrev pub pair_of_aim : ℕ → ℕ → Option DirectAim → Option Pair
pair_of_aim hart s None = None
pair_of_aim hart s (Some aim) = if nat_eq aim.hart hart then Some (aim.priority, s) else None

-- A list with a pair put in at its place, or taken out, where there is a pair.
abbrev pub with_pair : Option Pair → CandidatesState → CandidatesState
with_pair o x = record x { pairs = put_if o x.pairs }

abbrev pub without_pair : Option Pair → CandidatesState → CandidatesState
without_pair o x = record x { pairs = out_if o x.pairs }

-- What is kept: the list of each hart, and which sources wait for an MSI.
pub record WaitingState : Type 0 where
  pub fronts : List CandidatesState
  pub ready : List ℕ

-- The pairs of a hart's list; none of a hart that isn't there.
abbrev pub pairs_at : List CandidatesState → ℕ → List Pair
pairs_at fronts hart =
    option_map_or (λ (x : CandidatesState). x.pairs) (slice_get fronts hart) []

-- Each list has the pairs of its hart, and room for so many.
abbrev pub AllHave : (ℕ → List Pair) → ℕ → List CandidatesState → Type 0
AllHave pairs room fronts =
    (hart : ℕ) (x : CandidatesState) → slice_get fronts hart ≡ Some x
    → (x.pairs ≡ pairs hart) × (x.room ≡ room)

abbrev pub HaveRoom : ℕ → List CandidatesState → Type 0
HaveRoom room fronts =
    (hart : ℕ) (x : CandidatesState) → slice_get fronts hart ≡ Some x → x.room ≡ room

-- The lists of harts have the pairs that they are to have, and room for one of each source; by MSIs
-- the bits show which sources wait, and else none.
pub record IsWhatWaits (msi : Bool) (sources : List InterruptSourceState) (waiting : WaitingState)
    : Type 0 where
  pub lists : AllHave (pairs_for msi sources) (length sources - 1) waiting.fronts
  pub bits : (s : ℕ) → is_in waiting.ready s ≡ (msi && waits_at sources s)

-- What becomes of a list where a source that was aimed so is aimed otherwise.
abbrev pub renewed : ℕ → Option DirectAim → Option DirectAim → ℕ → CandidatesState → CandidatesState
renewed s stood stands hart x =
    with_pair (pair_of_aim hart s stands) (without_pair (pair_of_aim hart s stood) x)

-- Each list has room for the pair that comes to it.
abbrev pub HasRoom : ℕ → Option DirectAim → Option DirectAim → List CandidatesState → Type 0
HasRoom s stood stands fronts =
    (hart : ℕ) (x : CandidatesState) → slice_get fronts hart ≡ Some x
    → is_some (pair_of_aim hart s stands) ≡ true
    → length (out_if (pair_of_aim hart s stood) x.pairs) < x.room
