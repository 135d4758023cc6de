use Rattle.std.specs.Prelude.{◌≡◌, ◌+◌, ◌-◌, ◌*◌}
use Rattle.aia_word.specs.Sets.{word_of}
use Rattle.aia_domain.specs.InterruptSource.{bit_at_source}
use Rattle.aia_domain.proofs.by_number.word_shown.Given as goal

abbrev pub invariant-loop-place : goal.invariant-loop-place
invariant-loop-place l = l.word ≡ word_of (bit_at_source l.sources l.which) (32 * l.k + l.place) (32 - l.place)
