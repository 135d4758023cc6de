use Rattle.std.proofs.Common.{◌≡◌, ◌-◌, length}
use Rattle.plans_counterexamples.specs.Search.{first_of}
use Rattle.plans_counterexamples.specs.UntoldSearch.{stored_by}
use Rattle.plans_counterexamples.proofs.untold_search.stored_any.Given as goal

abbrev pub invariant-loop-producer : goal.invariant-loop-producer
invariant-loop-producer l = first_of (stored_by l.producers l.fn.terms l.plan l.fn.word) l.producer (length l.producers - l.producer) ≡ first_of
    (stored_by l.producers l.fn.terms l.plan l.fn.word) 0 (length l.producers)
