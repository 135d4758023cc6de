use Rattle.std.proofs.Common.{◌≡◌, ◌-◌}
use Rattle.plans_counterexamples.specs.Search.{first_of, quiet_word}
use Rattle.plans_counterexamples.proofs.search.quiet_words.Given as goal

abbrev pub invariant-loop-word : goal.invariant-loop-word
invariant-loop-word l = first_of (quiet_word l.fn.rule l.producers l.fn.terms l.plan) l.word (l.fn.terms.words - l.word)
    ≡ first_of (quiet_word l.fn.rule l.producers l.fn.terms l.plan) 0 (l.fn.terms.words)
