use Rattle.std.proofs.Common.{◌≡◌, ◌-◌}
use Rattle.std.specs.Prelude.{length}
use Rattle.plans_counterexamples.specs.Search.{first_of, by_producer}
use Rattle.plans_counterexamples.proofs.search.stored_word.Given as goal

abbrev pub invariant-loop-producer : goal.invariant-loop-producer
invariant-loop-producer l = first_of (by_producer l.fn.rule l.producers l.fn.terms l.plan l.fn.word l.fn.at) l.producer
    (length l.producers - l.producer)
    ≡ first_of (by_producer l.fn.rule l.producers l.fn.terms l.plan l.fn.word l.fn.at) 0 (length l.producers)
