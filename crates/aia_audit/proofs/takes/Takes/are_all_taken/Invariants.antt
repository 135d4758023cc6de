use Rattle.std.proofs.Common.{◌≡◌, true}
use Rattle.aia_word.specs.Sets.{has_bit}
use Rattle.aia_plan.specs.Rule.{all_below}
use Rattle.aia_audit.proofs.takes.Takes.are_all_taken.Given as goal

abbrev pub invariant-loop-word : goal.invariant-loop-word
invariant-loop-word l = all_below (has_bit l.fn.self.taken) l.word ≡ true
