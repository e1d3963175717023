use Rattle.std.proofs.Common.{arith, ap, ◌≡◌, ◌<◌, ◌*◌, ◌∙◌}
use Rattle.std.proofs.Math.Nat.{lt_of_mul-lt-mul_right}
use Rattle.g1_image.proofs.Tests.{always}
use Rattle.g1_image.proofs.shape.is_run.Goals as goal

pub returns : goal.returns
returns c =
    let h = c.args.draft.now in
    let run : c.start.result ≡ c.loop-geometry.i * h.geometry.w = c.start.ensures.value ∙ ap (λ g. c.loop-geometry.i * g.w) c.geometry-geometry.ensures.same in
    always (λ q pos lt.
    let below : q * h.geometry.w < c.loop-geometry.i * h.geometry.w = omega (arith, run, c.loop-geometry-test.false, lt) in
    c.loop-geometry.invariant.2 q pos (lt_of_mul-lt-mul_right h.geometry.w below))

pub region-requires : goal.region-requires
region-requires c =
    let n : c.regions-regions.result ≡ c.args.draft.now.geometry.n = c.regions-regions.ensures.value ∙ ap (λ g. g.n) c.geometry-geometry.ensures.same in
    omega (arith, n, c.if-r-i.false)

pub loop-geometry-smaller : goal.loop-geometry-smaller
loop-geometry-smaller c = omega (arith, c.loop-geometry-test.true)
