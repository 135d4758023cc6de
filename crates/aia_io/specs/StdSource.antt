-- What is seen of a `StdSource`, and what one read does to its counts.
use Rattle.std.specs.Prelude.{◌≡◌, ℕ, List, Option}
use Rattle.aia_io.specs.declared.source.Read.{Read}
use Rattle.aia_io.specs.declared.source.Read.TheVariants.{Got, End, Failed}
use Rattle.aia_io.specs.declared.std_source.StdSource.{StdSource}
use Rattle.aia_io.specs.Calls.{one_more}
use Rattle.aia_io.specs.Ends.{Supply}

-- the reader inside
abbrev pub reader_of : {R : Type 0} → StdSource R → R
reader_of s = s.reader

-- how many bytes it gave
abbrev pub bytes_given : {R : Type 0} → StdSource R → ℕ
bytes_given s = s.given

-- how many of its reads found the reader's end
abbrev pub ends_told : {R : Type 0} → StdSource R → ℕ
ends_told s = s.ends

-- how many of its reads failed
abbrev pub source_faults : {R : Type 0} → StdSource R → ℕ
source_faults s = s.faults

-- a read counts one fault where it failed, and else none
abbrev pub ReadCounts : ℕ → ℕ → Read → Type 0
ReadCounts before now (Got n) = now ≡ before
ReadCounts before now End = now ≡ before
ReadCounts before now Failed = now ≡ one_more before

-- a read counts one end where it found that, and else none
abbrev pub EndCounts : ℕ → ℕ → Read → Type 0
EndCounts before now (Got n) = now ≡ before
EndCounts before now End = now ≡ one_more before
EndCounts before now Failed = now ≡ before

-- what it tells of its bytes, given those that are known to come, if they are
abbrev pub source_supply : {R : Type 0} → Option (List ℕ) → StdSource R → Supply
source_supply to_come s = record { to_come = to_come; given = s.given; ends = s.ends }
