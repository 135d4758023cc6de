-- Where files are kept, and what is there once one is replaced.
use Rattle.std.proofs.Common.{◌≡◌, ◌≢◌, ℕ, ◌+◌, ◌*◌, ◌<◌, length, refl, sym, ap, ◌∙◌, arith}
use Rattle.std.proofs.lemmas.Nat.{same_from_place, mul-add-lt}
use Rattle.std.proofs.lemmas.List.{get_or-set_other}
use Rattle.std.proofs.lemmas.Grind.{get_or-set_at}
use Rattle.aia_file.specs.FileState.{FileState}
use Rattle.aia_file.specs.declared.spot.Spot.{Spot}
use Rattle.aia_file.specs.declared.spot.Spot.TheVariants.{MachineFile, SupervisorFile, GuestFile, Nowhere}
use Rattle.aia_file.specs.Imsic.{ImsicState, IsThere, place_of, no_file, file_at, with_file}

-- ---- the row and the column of a file

abbrev row_of : Spot → ℕ
row_of (MachineFile hart) = hart
row_of (SupervisorFile hart) = hart
row_of (GuestFile hart file) = hart
row_of Nowhere = 0

abbrev column_of : Spot → ℕ
column_of (MachineFile hart) = 0
column_of (SupervisorFile hart) = 1
column_of (GuestFile hart file) = 1 + file
column_of Nowhere = 0

placed : (h : ImsicState) (spot : Spot) → place_of h spot ≡ row_of spot * (h.guests + 2) + column_of spot
placed h (MachineFile hart) = omega arith
placed h (SupervisorFile hart) = refl
placed h (GuestFile hart file) = omega arith
placed h Nowhere = omega arith

row_there : (h : ImsicState) (spot : Spot) → IsThere h spot → row_of spot < h.harts
row_there h (MachineFile hart) there = there
row_there h (SupervisorFile hart) there = there
row_there h (GuestFile hart file) there = there.0
row_there h Nowhere there = absurd there

column_there : (h : ImsicState) (spot : Spot) → IsThere h spot → column_of spot < h.guests + 2
column_there h (MachineFile hart) there = omega arith
column_there h (SupervisorFile hart) there = omega arith
column_there h (GuestFile hart file) there = omega (arith, there.2)
column_there h Nowhere there = absurd there

same_spot : (h : ImsicState) (a b : Spot) → IsThere h a → IsThere h b → row_of a ≡ row_of b → column_of a ≡ column_of b → a ≡ b
same_spot h (MachineFile a) (MachineFile b) p q r c = ap MachineFile r
same_spot h (MachineFile a) (SupervisorFile b) p q r c = absurd (omega arith)
same_spot h (MachineFile a) (GuestFile b j) p q r c = absurd (omega arith)
same_spot h (SupervisorFile a) (MachineFile b) p q r c = absurd (omega arith)
same_spot h (SupervisorFile a) (SupervisorFile b) p q r c = ap SupervisorFile r
same_spot h (SupervisorFile a) (GuestFile b j) p q r c = absurd (omega (arith, q.1))
same_spot h (GuestFile a i) (MachineFile b) p q r c = absurd (omega arith)
same_spot h (GuestFile a i) (SupervisorFile b) p q r c = absurd (omega (arith, p.1))
same_spot h (GuestFile a i) (GuestFile b j) p q r c = let e : i ≡ j = omega arith in cc
same_spot h Nowhere b p q r c = absurd p
same_spot h a Nowhere p q r c = absurd q

-- ---- what callers know

pub place_within : (h : ImsicState) (spot : Spot) → IsThere h spot → place_of h spot < h.harts * (h.guests + 2)
place_within h spot there = rw (placed h spot)
    (omega (arith, mul-add-lt (row_of spot) (h.guests + 2) (column_of spot) h.harts (row_there h spot there) (column_there h spot there)))

pub same_place : (h : ImsicState) (a b : Spot) → IsThere h a → IsThere h b → place_of h a ≡ place_of h b → a ≡ b
same_place h a b p q e =
    let same = sym (placed h a) ∙ e ∙ placed h b in
    let x = column_there h a p in
    let y = column_there h b q in
    let at = same_from_place (row_of a) (column_of a) (row_of b) (column_of b) (h.guests + 2) x y same in same_spot h a b p q at.0 at.1

pub replaced_here : (h : ImsicState) (spot : Spot) (file : FileState) → place_of h spot < length h.files → file_at (with_file h spot file) spot ≡ file
replaced_here h spot file within = get_or-set_at h.files (place_of h spot) (place_of h spot) file no_file refl within

pub kept_elsewhere : (h : ImsicState) (spot other : Spot) (file : FileState) → IsThere h spot → IsThere h other → other ≢ spot
    → file_at (with_file h spot file) other ≡ file_at h other
kept_elsewhere h spot other file there here apart =
    get_or-set_other h.files (place_of h spot) (place_of h other) file no_file (λ e. apart (same_place h other spot here there e))
