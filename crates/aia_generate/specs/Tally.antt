-- What a tally is after lines. Profile: how its numbers end.
use Rattle.std.specs.Prelude.{◌≡◌, ℕ, ◌+◌, ◌-◌, ◌%◌, ◌^◌, min, List, [], length, Option, Some, None}
use Rattle.aia_model.specs.declared.line.Line.{Line}
use Rattle.aia_generate.specs.declared.tally.Tally.{Tally}
use Rattle.aia_generate.specs.Summary.{claims_from, total}

-- A count of 64 bits: it stays at the greatest number once it is there.
abbrev pub counted : ℕ → ℕ
counted n = min n (2 ^ 64 - 1)

-- A tally after one more line, given the identity that the line claimed.
abbrev pub tally_after : Tally → Option ℕ → Tally
tally_after tally None = record tally { lines = counted (tally.lines + 1) }
tally_after tally (Some i) = record {
  lines = counted (tally.lines + 1);
  claims = counted (tally.claims + 1);
  sum = (tally.sum + i) % 2 ^ 64;
}

-- A tally is that of lines: of how many they are, of how many identities they claimed, and of the
-- sum of these, modulo 2^64.
pub record Tallies (tally : Tally) (lines : List Line) : Type 0 where
  pub all_lines : tally.lines ≡ counted (length lines)
  pub all_claims : tally.claims ≡ counted (length (claims_from [] lines))
  pub all_summed : tally.sum ≡ total (claims_from [] lines) % 2 ^ 64
