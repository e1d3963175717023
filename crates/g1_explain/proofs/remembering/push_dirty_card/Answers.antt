use Rattle.std.proofs.Common.{ℕ, rules, ltb, eqb, string_bytes}
use Rattle.std.proofs.lemmas.List.Sorted.{IsPartitionPoint-from_clause, IsPartitionedBy-ltb}
use Rattle.std.proofs.lemmas.Result.{on_ok_weaker}
use Rattle.g1_explain.proofs.DirtyLines.{same_first, same_run, card_end}
use Rattle.g1_explain.proofs.remembering.push_dirty_card.Goals as goal

pub returns : goal.returns
returns c = λ rise.
    let xs = c.args.gained.now in
    let card = c.args.card in
    let point = IsPartitionPoint-from_clause (λ (x : ℕ × ℕ). ltb x.0 card) _ _ c.partition_point-first.ensures.partitioned (IsPartitionedBy-ltb (λ (x : ℕ × ℕ). x.0) xs card rise) (λ a r q k. search rules) in
    let run = IsPartitionPoint-from_clause (λ (x : ℕ × ℕ). eqb x.0 card) _ _ c.partition_point-count.ensures.partitioned
    (same_first xs c.split_at.result.1.now card c.partition_point-first.result rise point c.split_at.ensures.back) (λ a r q k. search rules) in
    let same = same_run xs c.split_at.result.1.now c.split_at-2.result.0.now card c.partition_point-first.result c.partition_point-count.result c.partition_point-first.ensures.bound c.partition_point-count.ensures.bound
    point c.split_at.ensures.back run c.split_at-2.ensures.front in
    on_ok_weaker c.push_gaining.result
    (card_end card xs c.split_at-2.result.0.now (string_bytes c.args.text.now) (string_bytes c.write.new.self) (string_bytes c.push_gaining.new.text) same c.in_ok-write.ensures.bytes) c.push_gaining.ensures
