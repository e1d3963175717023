use Rattle.std.proofs.Common.{◌≡◌, false, true, ◌+◌, ◌*◌, ◌^◌, slice_index, length, min, sym, ap, subst, ◌∙◌, arith}
use Rattle.g1_words.specs.Heap.{region, start}
use Rattle.g1_words.specs.Valid.{IsWholeRun}
use Rattle.g1_image.proofs.Rows.{start_in}
use Rattle.g1_image.proofs.Tiled.{header_is}
use Rattle.g1_image.proofs.Tests.{never}
use Rattle.g1_image.proofs.shape.humongous_shaped.Goals as goal
use Rattle.g1_image.proofs.shape.humongous_shaped.Goals.{After-header-o}

pub header-o-requires : goal.header-o-requires
header-o-requires c =
    let h = c.args.draft.now in
    let place : c.start.result ≡ start h c.args.r = c.start.ensures.value ∙ ap (λ g. c.args.r * g.w) c.geometry-geometry.ensures.same in
    omega (arith, place, start_in h c.args.r c.geometry-geometry.ensures.draft.limits.w_least c.requires.there, c.words.ensures.draft.word_count, ap length c.words.ensures.same)

pub returns : goal.returns
returns c =
    let h = c.args.draft.now in
    let r = c.args.r in
    let q = c.header-o.result in
    let w : c.region_words-region_words.result ≡ h.geometry.w = c.region_words-region_words.ensures.value ∙ ap (λ g. g.w) c.geometry-geometry.ensures.same in
    let wide : c.geometry-geometry.result.w ≡ h.geometry.w = ap (λ g. g.w) c.geometry-geometry.ensures.same in
    let place : c.start.result ≡ start h r = c.start.ensures.value ∙ ap (λ g. r * g.w) c.geometry-geometry.ensures.same in
    let word : slice_index h.words (start h r) ≡ q.size * 2 ^ 32 + q.refs = sym (λ t. slice_index (c.words.ensures.same t) (place t)) ∙ c.header-o.ensures.word in
    let at : q.at ≡ start h r = c.header-o.ensures.at ∙ place in
    let top : c.from-top.result ≡ (region h r).top = c.from-top.ensures ∙ ap (λ x. x.top) c.region.ensures in
    let least : c.min-least.result ≡ min h.geometry.w q.size = omega (arith, c.min-least.ensures, w) in (
      (λ t. (
        q,
        record { kind = c.requires.kind; at = at; object = record { header = (λ u. slice_index h.words (at u)) ∙ word; refs_fit = c.if-o.false; size_fits = c.header-o.ensures.size } },
        omega (arith, wide, c.is_humongous.ensures.0 c.if-not-is_humongous.false),
        omega (arith, top, least, c.if-top-least.false),
        c.is_run.ensures.0 t,
      )),
      (λ s. c.is_run.ensures.1 (subst (λ n. IsWholeRun h r n) (header_is h.words (start h r) q word c.header-o.ensures.refs c.header-o.ensures.size s.0 s.1.at s.1.object).0 s.4)),
    )

-- the word at which the region begins
word_there : (c : After-header-o) →
    slice_index c.args.draft.now.words (start c.args.draft.now c.args.r) ≡ c.header-o.result.size * 2 ^ 32 + c.header-o.result.refs
word_there c =
    let h = c.args.draft.now in
    let place : c.start.result ≡ start h c.args.r = c.start.ensures.value ∙ ap (λ g. c.args.r * g.w) c.geometry-geometry.ensures.same in
    sym (λ t. slice_index (c.words.ensures.same t) (place t)) ∙ c.header-o.ensures.word

pub returns-then-o : goal.returns-then-o
returns-then-o c =
    let h = c.args.draft.now in
    let word = word_there (goal.at.returns-then-o c).After-header-o in
    never (λ s.
    let same = header_is h.words (start h c.args.r) c.header-o.result word c.header-o.ensures.refs c.header-o.ensures.size s.0 s.1.at s.1.object in
    omega (arith, same.0, same.1, s.1.object.refs_fit, c.if-o.true))

pub returns-then-not-is_humongous : goal.returns-then-not-is_humongous
returns-then-not-is_humongous c =
    let h = c.args.draft.now in
    let wide = ap (λ g. g.w) c.geometry-geometry.ensures.same in
    let word = word_there (goal.at.returns-then-not-is_humongous c).After-header-o in
    never (λ s.
    let same = header_is h.words (start h c.args.r) c.header-o.result word c.header-o.ensures.refs c.header-o.ensures.size s.0 s.1.at s.1.object in
    let clash : false ≡ true = c.if-not-is_humongous.ensures.1 (omega (arith, wide, same.0, s.2)) in cc)

pub returns-then-top-least : goal.returns-then-top-least
returns-then-top-least c =
    let h = c.args.draft.now in
    let q = c.header-o.result in
    let w : c.region_words-region_words.result ≡ h.geometry.w = c.region_words-region_words.ensures.value ∙ ap (λ g. g.w) c.geometry-geometry.ensures.same in
    let top : c.from-top.result ≡ (region h c.args.r).top = c.from-top.ensures ∙ ap (λ x. x.top) c.region.ensures in
    let least : c.min-least.result ≡ min h.geometry.w q.size = omega (arith, c.min-least.ensures, w) in
    let word = word_there (goal.at.returns-then-top-least c).After-header-o in
    never (λ s.
    let same = header_is h.words (start h c.args.r) q word c.header-o.ensures.refs c.header-o.ensures.size s.0 s.1.at s.1.object in
    absurd (c.if-top-least.true (omega (arith, top, s.3, same.0, least))))

pub is_run-requires-clause-there : goal.is_run-requires-clause-there
is_run-requires-clause-there c = c.requires.there

pub is_run-requires-clause-size : goal.is_run-requires-clause-size
is_run-requires-clause-size c = c.header-o.ensures.size

pub region-requires : goal.region-requires
region-requires c = c.requires.there
