-- What one read and one write do to the bytes that are known, the cause of a failure, and what many
-- reads and many writes do.
use Rattle.std.specs.Prelude.{◌≡◌, ℕ, ◌+◌, ◌-◌, ◌^◌, ◌<◌, ◌≤◌, ◌⊎◌, min, List, [], ◌++◌, length, take, drop, Option, Some, IfSome}
use Rattle.std.specs.Io.KnownBytes.{Appends, Consumes, IsAtEnd, Keeps}
use Rattle.aia_io.specs.declared.source.Read.{Read}
use Rattle.aia_io.specs.declared.source.Read.TheVariants as reads
use Rattle.aia_io.specs.declared.sink.Write.{Write}
use Rattle.aia_io.specs.declared.sink.Write.TheVariants as writes

-- a count of faults, or of ends, rose, or stands at its last value, the greatest u64
abbrev pub Rose : ℕ → ℕ → Type 0
Rose before now = (before < now) ⊎ (now ≡ 2 ^ 64 - 1)

-- what a source tells of its bytes: those still to come, where it tells them; how many it gave; and
-- how often it answered that none is left. Each count stays at the greatest u64
pub record Supply : Type 0 where
  pub to_come : Option (List ℕ)
  pub given : ℕ
  pub ends : ℕ

-- a count rose by n, or by what is left up to the greatest u64, where it stays
abbrev pub RoseBy : ℕ → ℕ → ℕ → Type 0
RoseBy n before now = now ≡ before + min n (2 ^ 64 - 1 - before)

-- the source gave these bytes, and counted them
abbrev pub Gives : Supply → Supply → List ℕ → Type 0
Gives old new bytes =
    Consumes old.to_come new.to_come bytes × RoseBy (length bytes) old.given new.given

-- the source gave no byte
abbrev pub GivesNone : Supply → Supply → Type 0
GivesNone old new = Keeps old.to_come new.to_come × (new.given ≡ old.given)

-- `Got n` gives the first n bytes left, at least one; `End` comes only where none is left, and it
-- alone counts as an end; a failure takes none
abbrev pub Reads : Supply → Supply → List ℕ → Read → Type 0
Reads old new buffer (reads.Got n) =
    (0 < n) × (n ≤ length buffer) × Gives old new (take n buffer) × (new.ends ≡ old.ends)
Reads old new buffer reads.End =
    IsAtEnd old.to_come × GivesNone old new × Rose old.ends new.ends
Reads old new buffer reads.Failed = GivesNone old new × (new.ends ≡ old.ends)

-- the same of a read into the front of a buffer, of so many bytes at most, where that front is now
-- in `piece`
abbrev pub ReadsFront : ℕ → Supply → Supply → List ℕ → Read → Type 0
ReadsFront most old new piece (reads.Got n) =
    (0 < n) × (n ≤ most) × Gives old new (take n piece) × (new.ends ≡ old.ends)
ReadsFront most old new piece reads.End =
    IsAtEnd old.to_come × GivesNone old new × Rose old.ends new.ends
ReadsFront most old new piece reads.Failed = GivesNone old new × (new.ends ≡ old.ends)

-- the bytes that a read gave stand at the front of the buffer, and the rest of the buffer is as
-- before
abbrev pub Fills : List ℕ → List ℕ → List ℕ → Read → Type 0
Fills left old new (reads.Got n) = new ≡ take n left ++ drop n old
Fills left old new reads.End = new ≡ old
Fills left old new reads.Failed = new ≡ old

-- a read's count of faults never falls, and rose where the read failed
abbrev pub ReadHasCause : ℕ → ℕ → Read → Type 0
ReadHasCause before now (reads.Got n) = before ≤ now
ReadHasCause before now reads.End = before ≤ now
ReadHasCause before now reads.Failed = (before ≤ now) × Rose before now

-- `Took n` appends the first n bytes offered, at least one; a failure appends none
abbrev pub Writes : Option (List ℕ) → Option (List ℕ) → List ℕ → Write → Type 0
Writes old new bytes (writes.Took n) =
    (0 < n) × (n ≤ length bytes) × Appends old new (take n bytes)
Writes old new bytes writes.Failed = Keeps old new

-- a write's count of faults never falls, and rose where the write failed
abbrev pub WriteHasCause : ℕ → ℕ → Write → Type 0
WriteHasCause before now (writes.Took n) = before ≤ now
WriteHasCause before now writes.Failed = (before ≤ now) × Rose before now

-- just so many bytes were taken: the source's count of them says so, whether it tells them or not
abbrev pub Takes : ℕ → Supply → Supply → Type 0
Takes count left rest = (bytes : List ℕ) × Gives left rest bytes × (length bytes ≡ count)

-- at most so many bytes were taken, by the same count
abbrev pub TakesAtMost : ℕ → Supply → Supply → Type 0
TakesAtMost count left rest = (bytes : List ℕ) × Gives left rest bytes × (length bytes ≤ count)

-- all was taken: the source answered that none is left, and where it tells its bytes, none is
abbrev pub TakesAll : Supply → Supply → Type 0
TakesAll left rest =
    Rose left.ends rest.ends × IfSome left.to_come (λ bytes. rest.to_come ≡ Some [])

-- the sink took a front of some bytes
pub record CutOff (before now : Option (List ℕ)) (bytes : List ℕ) : Type 0 where
  pub part : List ℕ
  pub lost : List ℕ
  pub appended : Appends before now part
  pub together : part ++ lost ≡ bytes
