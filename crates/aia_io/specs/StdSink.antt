-- What is seen of a `StdSink`, and what one write does to its count and its writer.
use Rattle.std.specs.Prelude.{◌≡◌, ℕ, ◌≤◌, List, length, take, Option}
use Rattle.std.specs.Io.KnownBytes.{Appends}
use Rattle.aia_io.specs.declared.sink.Write.{Write}
use Rattle.aia_io.specs.declared.sink.Write.TheVariants.{Took, Failed}
use Rattle.aia_io.specs.declared.std_sink.StdSink.{StdSink}
use Rattle.aia_io.specs.Calls.{one_more}

-- the writer inside
abbrev pub writer_of : {W : Type 0} → StdSink W → W
writer_of s = s.writer

-- how many of its writes failed
abbrev pub sink_faults : {W : Type 0} → StdSink W → ℕ
sink_faults s = s.faults

-- a write counts one fault where it failed, and else none
abbrev pub WriteCounts : ℕ → ℕ → Write → Type 0
WriteCounts before now (Took n) = now ≡ before
WriteCounts before now Failed = now ≡ one_more before

-- what the writer is known to hold grew by the bytes taken, and at a failure by a front of those
-- offered
abbrev pub PutsFront : Option (List ℕ) → Option (List ℕ) → List ℕ → Write → Type 0
PutsFront old new bytes (Took n) = Appends old new (take n bytes)
PutsFront old new bytes Failed = (n : ℕ) × (n ≤ length bytes) × Appends old new (take n bytes)
