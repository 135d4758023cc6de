-- What a `MemSink` is seen as, and what one write makes of it.
use Rattle.std.specs.Prelude.{◌≡◌, ℕ, ◌-◌, min, List, ◌++◌, length, take, ⊤}
use Rattle.aia_io.specs.declared.sink.Write.{Write}
use Rattle.aia_io.specs.declared.sink.Write.TheVariants.{Took, Failed}
use Rattle.aia_io.specs.Calls.{one_more}

-- the bytes taken, how many it takes in all, which calls fail, and how many calls were made and
-- how many failed
pub record SinkState : Type 0 where
  pub taken : List ℕ
  pub room : ℕ
  pub fails : List ℕ
  pub calls : ℕ
  pub faults : ℕ

-- how many bytes it can still take
abbrev pub room_left : SinkState → ℕ
room_left s = s.room - length s.taken

-- a call that takes bytes takes all that it is offered, or all that it has room for
abbrev pub TakesMost : SinkState → List ℕ → Write → Type 0
TakesMost s bytes (Took n) = n ≡ min (length bytes) (room_left s)
TakesMost s bytes Failed = ⊤

-- the sink after a write that answered so: each call counts, and but for the answer nothing changes
abbrev pub after_write : SinkState → List ℕ → Write → SinkState
after_write s bytes (Took n) =
    record s { taken = s.taken ++ take n bytes; calls = one_more s.calls }
after_write s bytes Failed = record s { calls = one_more s.calls; faults = one_more s.faults }
