use Rattle.std.proofs.Common.{◌≡◌, ℕ, ◌<◌, false, nat_eq, slice_index_or}
use Rattle.aia_model.specs.Passes.{no_pass}
use Rattle.aia_hyp.proofs.passes.Passes.number_of.Given as goal

-- no pass before is of the source
abbrev pub invariant-loop-number : goal.invariant-loop-number
invariant-loop-number l = (j : ℕ) → j < l.number → nat_eq (slice_index_or l.self j no_pass).source l.source ≡ false
