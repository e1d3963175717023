use Rattle.std.proofs.Common.{◌≡◌, ◌+◌, ◌*◌, ◌-◌, length, drop, arith, length-take-le, length-drop, ◌∙◌}
use Rattle.g1_work.proofs.Slices.{written, slice_above, next_slice}
use Rattle.g1_work.proofs.regions.fill_run.Goals as goal

pub loop-k-preserved : goal.loop-k-preserved
loop-k-preserved g c =
    let w = c.args.width in let k = c.loop-k.k in let ws = c.loop-k.words in let ys = c.fill.new.words in
    let e = k * w + w - k * w in
    let cut : e ≡ w = omega arith in
    let len : length ws ≡ c.args.count * w = c.loop-k.auto.words ∙ c.requires.size in
    let ks = next_slice w k c.args.count c.loop-k-test.true in
    let new : length ys ≡ w = c.fill.auto.words ∙ (length-take-le e (drop (k * w) ws) (omega (arith, length-drop (k * w) ws)) ∙ cut) in
    record {
      done = written (g.F.Fill.fills c.args.fill.now) w c.args.count c.args.first k e c.args.words.now ws ys len c.loop-k-test.true cut new
          c.loop-k.invariant.done (c.loop-k.invariant.rest k (omega arith) c.loop-k-test.true) c.fill.ensures;
      rest = λ j a b. slice_above w c.args.count k j e ws ys len c.loop-k-test.true (omega arith) cut new ∙ c.loop-k.invariant.rest j (omega arith) b;
    }

pub returns : goal.returns
returns g c = record {
  size = c.loop-k.auto.words;
  each = λ j lt. c.loop-k.invariant.done j (let e = c.loop-k.auto.k-end in omega (arith, e, lt, c.loop-k-test.false));
}

pub loop-k-smaller : goal.loop-k-smaller
loop-k-smaller g c = omega (arith, c.loop-k-test.true)
