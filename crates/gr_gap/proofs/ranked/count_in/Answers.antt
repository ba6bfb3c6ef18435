-- The kit's search answers where the values of the rank or more begin.
use Rattle.std.proofs.Common.{ltb, ltb-true, ltb-false, rules}
use Rattle.std.proofs.lemmas.List.Sorted.{IsPartitionPoint-from_clause, IsPartitionedBy-ltb}
use Rattle.gr_gap.proofs.ranked.count_in.Goals as goal

pub returns-clause-point : goal.returns-clause-point
returns-clause-point g c =
    let parted = IsPartitionedBy-ltb g.T.Ranked.rank_of _ c.args.rank c.requires in
    let point = IsPartitionPoint-from_clause (λ v. ltb (g.T.Ranked.rank_of v) c.args.rank) _ _ c.partition_point.ensures.partitioned parted (λ a r q k. search rules) in
    (λ k d low h. ltb-true _ _ (point.0 k d low h), λ k d low h. ltb-false _ _ (point.1 k d low h))
