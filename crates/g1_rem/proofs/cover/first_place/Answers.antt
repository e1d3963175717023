use Rattle.std.proofs.Common.{rules, ltb, ℕ}
use Rattle.std.proofs.lemmas.List.Sorted.{IsPartitionPoint-from_clause, IsPartitionedBy-ltb}
use Rattle.g1_rem.proofs.Places.{rising_pairs, behind_point}
use Rattle.g1_rem.proofs.cover.first_place.Goals as goal

pub returns : goal.returns
returns c =
    let parted = IsPartitionedBy-ltb (λ (x : ℕ). x) _ c.args.card (rising_pairs c.args.set.now c.requires) in
    let point = IsPartitionPoint-from_clause (λ (x : ℕ). ltb x c.args.card) _ _ c.partition_point.ensures.partitioned parted (λ a r q k. search rules) in
    behind_point c.args.set.now c.args.card c.partition_point.result c.partition_point.ensures.bound point.0
