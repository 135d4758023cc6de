use Rattle.std.proofs.Common.{rules, sym}
use Rattle.aia_word.specs.Sets.{has_bit}
use Rattle.aia_audit.proofs.TakesLemmas.{below_fails}
use Rattle.aia_audit.proofs.takes.Takes.are_all_taken.Goals as goal

pub returns-then-not-has : goal.returns-then-not-has
returns-then-not-has c = sym (below_fails (has_bit c.args.self.taken) c.args.words c.loop-word.word (search rules) (search (rules, c.has.ensures)))
