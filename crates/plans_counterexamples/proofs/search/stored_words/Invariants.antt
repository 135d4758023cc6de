use Rattle.std.proofs.Common.{◌≡◌, ◌-◌}
use Rattle.plans_counterexamples.specs.Search.{first_of, stored_word}
use Rattle.plans_counterexamples.proofs.search.stored_words.Given as goal

abbrev pub invariant-loop-word : goal.invariant-loop-word
invariant-loop-word l = first_of (stored_word l.fn.rule l.producers l.fn.terms l.plan l.fn.at) l.word (l.fn.terms.words - l.word)
    ≡ first_of (stored_word l.fn.rule l.producers l.fn.terms l.plan l.fn.at) 0 (l.fn.terms.words)
