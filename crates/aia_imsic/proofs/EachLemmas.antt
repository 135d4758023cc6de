-- What is true of every file, once one was replaced.
use Rattle.std.proofs.Common.{◌≡◌, ◌≢◌, ◌⊎◌, inl, inr, sym, ap, subst}
use Rattle.std.proofs.lemmas.Bool.{cases_eq}
use Rattle.aia_file.specs.FileState.{FileState}
use Rattle.aia_file.specs.declared.spot.Spot.{Spot}
use Rattle.aia_file.specs.declared.spot.Spot.TheVariants.{MachineFile, SupervisorFile, GuestFile, Nowhere}
use Rattle.aia_file.specs.Imsic.{ImsicState, IsThere, place_of, file_at, with_file}
use Rattle.aia_file.proofs.PlaceLemmas.{same_place, kept_elsewhere}

same_or_other : (h : ImsicState) (a b : Spot) → IsThere h a → IsThere h b → (a ≡ b) ⊎ (a ≢ b)
same_or_other h a b p q = elim (cases_eq (place_of h a) (place_of h b)) [
  | inl e ↦ inl (same_place h a b p q e)
  | inr ne ↦ inr (λ e. ne (ap (place_of h) e))
]

-- the same files are there
there_still : (h : ImsicState) (spot other : Spot) (file : FileState) → IsThere (with_file h spot file) other → IsThere h other
there_still h spot (MachineFile hart) file there = there
there_still h spot (SupervisorFile hart) file there = there
there_still h spot (GuestFile hart number) file there = there
there_still h spot Nowhere file there = there

replaced : (h : ImsicState) (spot : Spot) (file : FileState) (P : Spot → FileState → Type 0) → IsThere h spot
    → P spot (file_at (with_file h spot file) spot)
    → ((other : Spot) → IsThere h other → other ≢ spot → P other (file_at h other)) → (other : Spot) → IsThere h other
    → P other (file_at (with_file h spot file) other)
replaced h spot file P there this others other here = elim (same_or_other h other spot here there) [
  | inl e ↦ subst (λ (s : Spot). P s (file_at (with_file h spot file) s)) (sym e) this
  | inr ne ↦ subst (λ (f : FileState). P other f) (sym (kept_elsewhere h spot other file there here ne)) (others other here ne)
]

-- What is true of the file that was replaced as it is now, and of every other as it was, is true of
-- each.
pub each_file : (h now : ImsicState) (spot : Spot) (file : FileState) (P : Spot → FileState → Type 0) → now ≡ with_file h spot file
    → IsThere h spot → P spot (file_at now spot)
    → ((other : Spot) → IsThere h other → other ≢ spot → P other (file_at h other)) → (other : Spot) → IsThere now other → P other (file_at now other)
each_file h now spot file P is there this others other here =
    let still = there_still h spot other file (subst (λ (x : ImsicState). IsThere x other) is here) in
    subst (λ (x : ImsicState). P other (file_at x other)) (sym is)
    (replaced h spot file P there (subst (λ (x : ImsicState). P spot (file_at x spot)) is this) others other still)
