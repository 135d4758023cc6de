-- A hart's candidates in rising order, and the first of them that a threshold lets through.
-- AIA 1.0, APLIC, "Interrupt delivery directly by the APLIC".
use Rattle.std.specs.Prelude.{ℕ, if◌then◌else◌, List, [], ◌∷◌, Option, Some, None}
use Rattle.aia_regs.specs.Top.{Pair}
use Rattle.aia_word.specs.Top.{lets_through}

-- A pair, where there is one and the threshold lets its priority through.
abbrev pub if_through : ℕ → Option Pair → Option Pair
if_through threshold None = None
if_through threshold (Some p) = if lets_through threshold p.0 then Some p else None

-- The candidates that the threshold lets through.
abbrev pub through : ℕ → (ℕ → Option Pair) → ℕ → Option Pair
through threshold candidate s = if_through threshold (candidate s)

-- The first of some pairs that the threshold lets through, None where it lets none through.
abbrev pub first_through : ℕ → List Pair → Option Pair
first_through threshold [] = None
first_through threshold (p ∷ ps) =
    if lets_through threshold p.0 then Some p else first_through threshold ps
