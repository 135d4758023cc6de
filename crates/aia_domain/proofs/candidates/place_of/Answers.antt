use Rattle.std.proofs.Common.{not, rules}
use Rattle.std.proofs.lemmas.List.Sorted.{IsPartitionPoint-from_clause}
use Rattle.aia_domain.specs.Order.{comes_before}
use Rattle.aia_domain.proofs.FallingLemmas.{falling_parted, unflipped_point}
use Rattle.aia_domain.proofs.candidates.place_of.Goals as goal

pub returns-clause-point : goal.returns-clause-point
returns-clause-point c =
    unflipped_point c.args.pair c.args.falling.now c.partition_point.result
    (IsPartitionPoint-from_clause (λ q. not (comes_before q c.args.pair)) _ _ c.partition_point.ensures.partitioned
    (falling_parted c.args.pair c.args.falling.now c.requires.rising) (λ a r q k. search rules))
