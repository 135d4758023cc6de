-- What one read of a `QuietSource` gives.
use Rattle.std.specs.Prelude.{◌≡◌, ℕ, min, [], length}
use Rattle.aia_io.specs.declared.source.Read.{Read}
use Rattle.aia_io.specs.declared.source.Read.TheVariants.{Got, End, Failed}
use Rattle.aia_io.specs.Tape.{TapeState, after_giving}

-- as many of the bytes left as there is room for, or the end where none is left; it never fails
abbrev pub GivesFront : TapeState → TapeState → ℕ → Read → Type 0
GivesFront old new room (Got n) = (n ≡ min room (length old.left)) × (new ≡ after_giving old n)
GivesFront old new room End = (old.left ≡ []) × (new ≡ after_giving old 0)
GivesFront old new room Failed = ⊥
