use Rattle.std.proofs.Common.{◌≡◌, ◌<◌, ◌+◌, ◌-◌, ◌∙◌, arith, ap, refl, subst, true, length, set, length-set}
use Rattle.g1_words.specs.Valid.{IsObject}
use Rattle.g1_image.specs.Marks.{InRow, Marked}
use Rattle.g1_image.proofs.Tests.{never, always, at_most}
use Rattle.g1_image.proofs.Tiled.{read_fits, read_object, Checked-start, Checked-step, Checked-end}
use Rattle.g1_image.proofs.Rows.{Marked-start, Marked-step}
use Rattle.g1_image.proofs.shape.mark_row.Goals as goal

pub returns-then-o-clause-tiled : goal.returns-then-o-clause-tiled
returns-then-o-clause-tiled c = never (λ t. let f = read_fits c.args.words.now.items c.args.from c.args.to c.args.geometry.now.w c.loop-at.at c.header-o.result
    c.loop-at-test.true c.header-o.ensures.at c.header-o.ensures.word c.header-o.ensures.refs c.header-o.ensures.size
    (c.loop-at.invariant.checked.ahead t) in omega (arith, f.0, c.if-o.true))

pub returns-then-is_humongous-clause-tiled : goal.returns-then-is_humongous-clause-tiled
returns-then-is_humongous-clause-tiled c = never (λ t. let f = read_fits c.args.words.now.items c.args.from c.args.to c.args.geometry.now.w c.loop-at.at
    c.header-o.result c.loop-at-test.true c.header-o.ensures.at c.header-o.ensures.word c.header-o.ensures.refs c.header-o.ensures.size
    (c.loop-at.invariant.checked.ahead t) in omega (arith, f.1, c.is_humongous.ensures.0 c.if-is_humongous.true))

pub returns-then-at-o-clause-tiled : goal.returns-then-at-o-clause-tiled
returns-then-at-o-clause-tiled c = never (λ t. let f = read_fits c.args.words.now.items c.args.from c.args.to c.args.geometry.now.w c.loop-at.at c.header-o.result
    c.loop-at-test.true c.header-o.ensures.at c.header-o.ensures.word c.header-o.ensures.refs c.header-o.ensures.size
    (c.loop-at.invariant.checked.ahead t) in omega (arith, f.2, c.if-at-o.true))

pub set-requires : goal.set-requires
set-requires c = omega (arith, c.loop-at-test.true, c.requires.above, c.requires.below, c.loop-at.invariant.order, c.loop-at.invariant.count)

pub loop-at-init : goal.loop-at-init
loop-at-init c = record {
  order = omega arith;
  checked = Checked-start c.args.words.now.items c.args.from c.args.to c.args.geometry.now.w c.requires.order;
  count = refl;
  marked = Marked-start c.args.words.now.items c.args.base c.args.from c.args.marks.now;
}

pub loop-at-preserved : goal.loop-at-preserved
loop-at-preserved c =
    let words = c.args.words.now.items in
    let at = c.loop-at.at in
    let q = c.header-o.result in
    let row = c.loop-at.invariant.checked in
    let fits : q.refs < q.size = omega (arith, c.if-o.false) in
    let object : IsObject words q = read_object words at q c.header-o.ensures.at c.header-o.ensures.word c.header-o.ensures.size fits in
    record {
      order = omega (arith, c.loop-at.invariant.order);
      checked = Checked-step words c.args.from c.args.to c.args.geometry.now.w at q c.loop-at-test.true c.header-o.ensures.at c.header-o.ensures.word c.header-o.ensures.refs
          c.header-o.ensures.size row fits (at_most _ _ _ c.is_humongous.ensures c.if-is_humongous.false) (omega (arith, c.if-at-o.false));
      count = ap length c.set.ensures ∙ (let same : length (set c.loop-at.marks (at - c.args.base) true) ≡ length c.loop-at.marks = simp length-set in same) ∙ c.loop-at.invariant.count;
      marked = Marked-step words c.args.base c.args.from at q (row.passed.0, row.passed.1) object c.header-o.ensures.at c.requires.below c.args.marks.now c.loop-at.marks c.set.new.self
          (omega (arith, c.loop-at-test.true, c.requires.above, c.loop-at.invariant.count)) c.set.ensures c.loop-at.invariant.marked;
    }

pub loop-at-smaller : goal.loop-at-smaller
loop-at-smaller c = omega (arith, c.loop-at-test.true)

pub returns-clause-tiled : goal.returns-clause-tiled
returns-clause-tiled c = always (Checked-end c.args.words.now.items c.args.from c.args.to c.args.geometry.now.w c.loop-at.at c.loop-at.invariant.checked c.loop-at-test.false)

pub returns-clause-marked : goal.returns-clause-marked
returns-clause-marked c = λ t.
    let e : c.loop-at.at ≡ c.args.to = omega (arith, c.loop-at.invariant.checked.order, c.loop-at-test.false) in
    subst (λ x. Marked (λ k. InRow c.args.words.now.items c.args.from x (c.args.base + k)) c.args.marks.now c.loop-at.marks) e c.loop-at.invariant.marked
