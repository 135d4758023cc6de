-- The next piece of a source, of which a run takes SOURCE_BYTES at most. Vocabulary.
use Rattle.std.specs.Prelude.{◌≡◌, ℕ, ◌+◌, ◌≤◌}
use Rattle.aia_io.specs.declared.limits.TheConstants.{SOURCE_BYTES}
use Rattle.aia_io.specs.declared.reading.Piece.{Piece}
use Rattle.aia_io.specs.declared.reading.Piece.TheVariants.{Got, End, Failed, TooLong}
use Rattle.aia_io.specs.declared.source.Read.{Read}
use Rattle.aia_io.specs.declared.source.Read.TheVariants as reads

-- The read that a piece came of: one byte was read of a source that has too many.
abbrev pub read_of : Piece → Read
read_of (Got n) = reads.Got n
read_of End = reads.End
read_of Failed = reads.Failed
read_of TooLong = reads.Got 1

-- With what was taken before a piece is no more than a run takes, or as many were taken before it.
abbrev pub IsWithin : ℕ → Piece → Type 0
IsWithin taken (Got n) = taken + n ≤ SOURCE_BYTES
IsWithin taken End = taken ≤ SOURCE_BYTES
IsWithin taken Failed = taken ≤ SOURCE_BYTES
IsWithin taken TooLong = taken ≡ SOURCE_BYTES
