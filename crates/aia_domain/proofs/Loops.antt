-- What loops have done so far.
use Rattle.std.specs.Prelude.{ℕ, ◌%◌, Bool, ◌&&◌, nat_lt, if◌then◌else◌}
use Rattle.aia_source.specs.Registers.{in_word}
use Rattle.aia_domain.specs.InterruptSource.{InterruptSourceState, switched}

-- Those of a word whose bits are below one.
abbrev pub in_word_below : ℕ → ℕ → ℕ → ℕ → Bool
in_word_below below k v s = in_word k v s && nat_lt (s % 32) below

-- Those below a number are switched.
abbrev pub switched_below : ℕ → Bool → ℕ → InterruptSourceState → InterruptSourceState
switched_below below msi s x = if nat_lt s below then switched msi x else x
