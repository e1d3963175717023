use Rattle.std.proofs.Common.{◌≡◌, ◌<◌, ◌*◌, ◌/◌, sym, ap, subst, ◌∙◌, arith}
use Rattle.g1_words.specs.Geometry.{Geometry}
use Rattle.g1_words.specs.Heap.{kind, start, end, region_of}
use Rattle.g1_words.specs.declared.region.Kind.TheVariants.{HumongousFirst, Continuation}
use Rattle.g1_words.specs.declared.region.Region.{Region}
use Rattle.g1_report.specs.declared.location.Location.TheVariants.{Inside}
use Rattle.g1_report.specs.Location.{IsLocation}
use Rattle.g1_report.proofs.Locating.{in_first, in_run}
use Rattle.g1_report.proofs.location.locate.Goals as goal

pub returns-in-HumongousFirst-clause-location : goal.returns-in-HumongousFirst-clause-location
returns-in-HumongousFirst-clause-location c =
    let h = c.args.heap.now in
    let a = c.args.address in
    let r = c.region_of-number.result in
    let same = c.geometry-geometry.ensures.same in
    let here : region_of h a ≡ r = sym (c.region_of-number.ensures ∙ ap (λ (g : Geometry). a / g.w) same) in
    let many = ap (λ (g : Geometry). g.n) same in
    let lt : r < h.geometry.n = omega (arith, c.if-number-regions.false, c.regions.ensures.value, many) in
    let first : kind h r ≡ HumongousFirst = ap (λ (r : Region). r.kind) (sym c.region-kind.ensures) ∙ c.in-HumongousFirst.is in
    let top = ap (λ (r : Region). r.top) c.region-kind.ensures in
    let at : c.start-start.result ≡ start h r = c.start-start.ensures.value ∙ ap (λ (g : Geometry). r * g.w) same in
    let used : a < end h r = omega (arith, c.if-address-start.false, c.from.ensures, top, at) in
    subst (λ x. IsLocation h a (Inside x)) (sym at) (in_first h c.geometry-geometry.ensures.valid a r lt here used first)

pub returns-in-Continuation-clause-location : goal.returns-in-Continuation-clause-location
returns-in-Continuation-clause-location c =
    let h = c.args.heap.now in
    let a = c.args.address in
    let r = c.region_of-number.result in
    let same = c.geometry-geometry.ensures.same in
    let here : region_of h a ≡ r = sym (c.region_of-number.ensures ∙ ap (λ (g : Geometry). a / g.w) same) in
    let many = ap (λ (g : Geometry). g.n) same in
    let lt : r < h.geometry.n = omega (arith, c.if-number-regions.false, c.regions.ensures.value, many) in
    let on : kind h r ≡ Continuation = ap (λ (r : Region). r.kind) (sym c.region-kind.ensures) ∙ c.in-Continuation.is in
    let top = ap (λ (r : Region). r.top) c.region-kind.ensures in
    let at : c.start-start.result ≡ start h r = c.start-start.ensures.value ∙ ap (λ (g : Geometry). r * g.w) same in
    let used : a < end h r = omega (arith, c.if-address-start.false, c.from.ensures, top, at) in
    let run = c.first_of_run.ensures on in
    subst (λ x. IsLocation h a (Inside x)) (sym run.1) (in_run h c.geometry-geometry.ensures.valid a r lt here used run.0 run.2)
