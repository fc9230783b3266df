use Rattle.std.proofs.Common.{rules, ltb}
use Rattle.std.proofs.lemmas.List.Sorted.{IsPartitionPoint-from_clause, IsPartitionedBy-ltb}
use Rattle.arrays.proofs.searching.Halving.{never-falls, at-place}
use Rattle.arrays.proofs.searching.place_in_narrow.Goals as goal

pub returns : goal.returns
returns c =
    let told = c.partition_point.ensures in
    let parts = IsPartitionPoint-from_clause (λ y. ltb y c.args.x) _ _ told.partitioned (IsPartitionedBy-ltb (λ y. y) _ c.args.x (never-falls _ c.requires)) (λ a r f g. search rules) in
    (told.bound, at-place _ _ _ told.bound parts)
