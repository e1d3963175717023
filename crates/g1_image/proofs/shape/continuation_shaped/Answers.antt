use Rattle.std.proofs.Common.{arith, ◌≡◌, ◌*◌, ◌-◌, min, ap, sym, ◌∙◌, eq-eqb, eqb-true}
use Rattle.g1_words.specs.Heap.{region}
use Rattle.g1_image.proofs.Tests.{never}
use Rattle.g1_image.proofs.Runs.{continues, continues_some, continued_by}
use Rattle.g1_image.proofs.shape.continuation_shaped.Goals as goal

pub returns-then-size-eq0 : goal.returns-then-size-eq0
returns-then-size-eq0 c = λ shaped. never (λ s. continues_some c.args.draft.now c.args.r c.args.first c.args.size (c.requires.latest shaped) shaped s (omega (arith, c.if-size-eq0.true)))

pub returns-then-before-size : goal.returns-then-before-size
returns-then-before-size c = λ shaped. never (λ s.
    let h = c.args.draft.now in
    let e : c.start-before.result ≡ (c.args.r - c.args.first) * h.geometry.w = c.start-before.ensures.value ∙ ap (λ g. (c.args.r - c.args.first) * g.w) c.geometry-geometry.ensures.same in
    let k = continues h c.args.r c.args.first c.args.size (c.requires.latest shaped) shaped (omega arith) s in
    omega (arith, e, k.0, c.if-before-size.true))

pub returns : goal.returns
returns c = λ shaped.
    let h = c.args.draft.now in
    let w : c.region_words-region_words.result ≡ h.geometry.w = c.region_words-region_words.ensures.value ∙ ap (λ g. g.w) c.geometry-geometry.ensures.same in
    let e : c.start-before.result ≡ (c.args.r - c.args.first) * h.geometry.w = c.start-before.ensures.value ∙ ap (λ g. (c.args.r - c.args.first) * g.w) c.geometry-geometry.ensures.same in
    let top : c.from-top.result ≡ (region h c.args.r).top = c.from-top.ensures ∙ ap (λ x. x.top) c.region.ensures in
    let least : c.min.result ≡ min h.geometry.w (c.args.size - (c.args.r - c.args.first) * h.geometry.w) = omega (arith, c.min.ensures, e, w) in (
      (λ t. continued_by h c.args.r c.args.first c.args.size (c.requires.latest shaped) shaped (omega arith) (omega (arith, e, c.if-before-size.false))
          (sym top ∙ eqb-true c.from-top.result c.min.result t ∙ least)),
      (λ s. eq-eqb c.from-top.result c.min.result (top ∙ (continues h c.args.r c.args.first c.args.size (c.requires.latest shaped) shaped (omega arith) s).1 ∙ sym least)),
    )
