use Rattle.std.proofs.Common.{◌≡◌, ◌<◌, ℕ, ◌++◌, [], List, length, map, get_or, arith, ◌∙◌}
use Rattle.std.specs.Prelude.{min}
use Rattle.g1_explain.proofs.Gained.{pairs_of, region_more, set_at, rises_there, sets_many, gained_end, firsts_rise}
use Rattle.g1_explain.specs.Remembered.{joined}
use Rattle.g1_explain.proofs.remembering.gained_cards.Goals as goal

pub loop-region-preserved : goal.loop-region-preserved
loop-region-preserved c = λ rise.
    let n : ℕ = c.loop-region.region in
    let before : List (List ℕ) = map (λ s. s.items) c.args.before.now in
    let after : List (List ℕ) = map (λ s. s.items) c.args.after.now in
    let in_before : n < length c.args.before.now = omega (arith, c.loop-region-test.true, c.min-region-end.ensures) in
    let in_after : n < length c.args.after.now = omega (arith, c.loop-region-test.true, c.min-region-end.ensures) in
    let old : c.deref.result.now ≡ get_or before n [] = set_at c.args.before.now n c.index-before-region.result c.deref.result.now in_before c.index-before-region.is c.deref.ensures.value in
    let new : c.deref-in-loop-region.result.now ≡ get_or after n [] = set_at c.args.after.now n c.index-after-region.result c.deref-in-loop-region.result.now in_after c.index-after-region.is c.deref-in-loop-region.ensures.value in
    region_more (pairs_of before after) c.loop-region.gained.items c.add_gained.new.gained.items n (c.loop-region.invariant rise)
    (c.in_ok-add_gained.ensures (rises_there c.args.before.now n c.deref.result.now rise old)
    ∙ (λ i. c.loop-region.gained.items ++ map (λ x. (x, n)) (joined (old i) (new i))))

pub returns-clause-rise : goal.returns-clause-rise
returns-clause-rise c = firsts_rise c.sort_unstable.new.self.items c.sort_unstable.ensures.sorted

pub returns-clause-each : goal.returns-clause-each
returns-clause-each c = λ rise also card.
    let end : c.loop-region.region ≡ min (length c.args.before.now) (length c.args.after.now) = omega (arith, c.loop-region-test.false, c.loop-region.auto.region-end, c.min-region-end.ensures) in
    gained_end (map (λ s. s.items) c.args.before.now) (map (λ s. s.items) c.args.after.now) c.loop-region.region c.loop-region.gained.items c.sort_unstable.new.self.items
    (sets_many c.args.before.now c.args.after.now c.loop-region.region end) also (c.loop-region.invariant rise) c.sort_unstable.ensures.permutation c.sort_unstable.ensures.sorted card
