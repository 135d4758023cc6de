-- What a run has taken of its source so far. Vocabulary.
use Rattle.std.specs.Prelude.{◌≡◌, ℕ, List, ◌++◌, length, take, IfSome}
use Rattle.aia_io.specs.Ends.{Supply, Gives}
use Rattle.aia_io.specs.declared.source.Read.{Read}
use Rattle.aia_io.specs.declared.source.Read.TheVariants.{Got, End, Failed}

-- The bytes are all that the source had left, where it tells that.
abbrev pub IsAllLeft : Supply → List ℕ → Type 0
IsAllLeft left bytes = IfSome left.to_come (λ all. all ≡ bytes)

-- Said of all that was taken of a source till now, whatever the source had left before.
abbrev pub WhateverWasTaken : Supply → (Supply → List ℕ → Type 0) → Type 0
WhateverWasTaken now P = (left : Supply) (bytes : List ℕ) → Gives left now bytes → P left bytes

-- What one read took follows what was taken before; at the end that was all that was left.
abbrev pub ReadsOn : Supply → Supply → List ℕ → Read → Type 0
ReadsOn old new piece (Got n) = (length (take n piece) ≡ n)
    × WhateverWasTaken old (λ left bytes. Gives left new (bytes ++ take n piece))
ReadsOn old new piece End =
    WhateverWasTaken old (λ left bytes. Gives left new bytes × IsAllLeft left bytes)
ReadsOn old new piece Failed = WhateverWasTaken old (λ left bytes. Gives left new bytes)
