-- What a `MemSource` is seen as, and what one read makes of it.
use Rattle.std.specs.Prelude.{◌≡◌, ℕ, min, List, length, ⊤}
use Rattle.aia_io.specs.declared.source.Read.{Read}
use Rattle.aia_io.specs.declared.source.Read.TheVariants.{Got, End, Failed}
use Rattle.aia_io.specs.Calls.{one_more}
use Rattle.aia_io.specs.Tape.{TapeState, after_giving}

-- what it gives, the most that a call gives, which calls fail, and how many calls were made and how
-- many failed
pub record SourceState : Type 0 where
  pub tape : TapeState
  pub piece : ℕ
  pub fails : List ℕ
  pub calls : ℕ
  pub faults : ℕ

-- a call that gives bytes gives as many as the piece, the room and what is left allow
abbrev pub GivesMost : SourceState → ℕ → Read → Type 0
GivesMost s room (Got n) = n ≡ min (min s.piece room) (length s.tape.left)
GivesMost s room End = ⊤
GivesMost s room Failed = ⊤

-- the source after a read that answered so: each call counts, and but for the answer nothing
-- changes
abbrev pub after_read : SourceState → Read → SourceState
after_read s (Got n) = record s { tape = after_giving s.tape n; calls = one_more s.calls }
after_read s End = record s { tape = after_giving s.tape 0; calls = one_more s.calls }
after_read s Failed = record s { calls = one_more s.calls; faults = one_more s.faults }
