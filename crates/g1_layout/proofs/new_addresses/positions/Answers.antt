use Rattle.std.proofs.Common.{◌≡◌, length, get_or, set, None, Some, refl, ap, ◌∙◌, arith, rules}
use Rattle.std.proofs.lemmas.List.{length-replicate, length-set}
use Rattle.g1_layout.proofs.Positions.{Positioned-start, Positioned-step, Positioned-end}
use Rattle.g1_layout.proofs.new_addresses.positions.Goals as goal

pub loop-i-init : goal.loop-i-init
loop-i-init c =
    let none = c.in_ok-positions.ensures.items_if_clones_equal (λ x same. search rules) in
    record {
      positioned = Positioned-start c.args.set.now c.args.regions c.in_ok-positions.positions.items none;
      count = ap length none ∙ length-replicate c.args.regions None;
    }

pub loop-i-preserved : goal.loop-i-preserved
loop-i-preserved c =
    let here = c.requires.in_heap c.loop-i.i 0 c.loop-i-test.true in
    let r = get_or c.args.set.now c.loop-i.i 0 in
    let same : length (set c.loop-i.positions.items r (Some c.loop-i.i)) ≡ length c.loop-i.positions.items = simp length-set in
    record {
      positioned = Positioned-step c.args.set.now c.loop-i.i r c.loop-i.positions.items c.requires.rising c.loop-i-test.true refl
          (omega (arith, here, c.loop-i.invariant.count)) c.loop-i.invariant.positioned;
      count = same ∙ c.loop-i.invariant.count;
    }

pub returns : goal.returns
returns c = Positioned-end c.args.set.now c.loop-i.i c.loop-i.positions.items (omega (arith, c.loop-i-test.false, c.loop-i.auto.i-end)) c.loop-i.invariant.positioned

pub loop-i-smaller : goal.loop-i-smaller
loop-i-smaller c = omega (arith, c.loop-i-test.true)
