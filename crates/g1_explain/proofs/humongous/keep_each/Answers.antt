use Rattle.std.proofs.Common.{◌∙◌, map, sym}
use Rattle.g1_explain.proofs.Keepers.{kept_whole}
use Rattle.g1_explain.proofs.FirstKeepers.{each_end}
use Rattle.g1_explain.proofs.humongous.keep_each.Goals as goal

pub returns-then-is_any_left : goal.returns-then-is_any_left
returns-then-is_any_left c =
    each_end c.heap-heap.result.now c.args.walkable.now.heap c.args.set.now (map (λ s. s.items) c.args.refined.now) c.args.survivors.now c.args.keepers.now c.keep_by_roots.new.keepers c.keep_by_cards.new.keepers
    c.keep_by_survivors.new.keepers c.heap-heap.ensures.same c.keep_by_roots.ensures c.keep_by_cards.ensures c.keep_by_survivors.ensures

pub returns-else-is_any_left : goal.returns-else-is_any_left
returns-else-is_any_left c =
    each_end c.heap-heap.result.now c.args.walkable.now.heap c.args.set.now (map (λ s. s.items) c.args.refined.now) c.args.survivors.now c.args.keepers.now c.keep_by_roots.new.keepers c.keep_by_cards.new.keepers
    c.keep_by_cards.new.keepers c.heap-heap.ensures.same c.keep_by_roots.ensures c.keep_by_cards.ensures (λ are. kept_whole _ c.keep_by_cards.new.keepers (sym c.is_any_left.ensures ∙ c.if-is_any_left.false))
