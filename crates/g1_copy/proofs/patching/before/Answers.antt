use Rattle.std.proofs.Common.{ℕ, rules, ltb}
use Rattle.std.proofs.lemmas.List.Sorted.{IsPartitionPoint-from_clause, IsPartitionedBy-ltb}
use Rattle.g1_copy.proofs.PatchesBefore.{first_by, slots_rise}
use Rattle.g1_copy.proofs.patching.before.Goals as goal

pub returns : goal.returns
returns c =
    let parted = IsPartitionedBy-ltb (λ (x : ℕ × ℕ). x.0) _ c.args.end (slots_rise c.args.patches.now c.requires) in
    let point = IsPartitionPoint-from_clause (λ (x : ℕ × ℕ). ltb x.0 c.args.end) _ _ c.partition_point.ensures.partitioned parted (λ a r q k. search rules) in
    first_by c.args.patches.now c.args.end c.partition_point.result c.partition_point.ensures.bound point.0 point.1
