use Rattle.std.proofs.Common.{◌+◌, ◌-◌, false, not, sym, ap, arith}
use Rattle.std.specs.Prelude.{slice_index_or}
use Rattle.aia_word.proofs.LeastLemmas.{least_of-found, least_of-none}
use Rattle.aia_pool.proofs.pool.least_free.Goals as goal

pub returns-then-not-out-first-clause-value : goal.returns-then-not-out-first-clause-value
returns-then-not-out-first-clause-value c =
    let out = c.args.out.now in
    sym (least_of-found (λ file. not (slice_index_or out (c.args.first + file - 1) false)) 1 c.args.count c.loop-file.file (omega arith)
    (omega arith) (ap not c.if-not-out-first.true) (λ j a b. ap not (c.loop-file.invariant j a b)))

pub returns-clause-value : goal.returns-clause-value
returns-clause-value c =
    let out = c.args.out.now in
    sym (least_of-none (λ file. not (slice_index_or out (c.args.first + file - 1) false)) 1 c.args.count
    (λ j a b. ap not (c.loop-file.invariant j a (omega arith))))
