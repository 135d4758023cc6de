use Rattle.std.proofs.Common.{◌≡◌, ◌+◌, ◌-◌, length}
use Rattle.plans_counterexamples.specs.Search.{first_of}
use Rattle.plans_counterexamples.specs.UntoldSearch.{stored_before}
use Rattle.plans_counterexamples.proofs.untold_search.stored_by.Given as goal

abbrev pub invariant-loop-before : goal.invariant-loop-before
invariant-loop-before l = first_of (stored_before l.producers l.fn.terms l.plan l.fn.word l.fn.producer) l.before
    (length l.plan + 1 - l.before) ≡ first_of (stored_before l.producers l.fn.terms l.plan l.fn.word l.fn.producer) 0 (length l.plan + 1)
