use Rattle.std.proofs.Common.{◌≡◌, ◌<◌, ◌*◌, ◌/◌, ◌∙◌, ap, arith}
use Rattle.std.proofs.Math.Nat.{div-lt_iff_lt-mul}
use Rattle.g1_image.proofs.copying.is_used.Goals as goal

pub region-requires : goal.region-requires
region-requires c =
    let g = c.args.heap.now.geometry in
    let same = c.geometry-geometry.ensures.same in
    let at : c.card_start.result ≡ c.args.card * g.k = c.card_start.ensures.value ∙ ap (λ q. c.args.card * q.k) same in
    let all : c.words.result ≡ g.n * g.w = c.words.ensures.value ∙ ap (λ q. q.n * q.w) same in
    let region : c.region_of_card-region.result ≡ c.args.card * g.k / g.w = c.region_of_card-region.ensures.value ∙ ap (λ q. c.args.card * q.k / q.w) same in
    let some : 0 < g.w = omega (arith, c.geometry-geometry.ensures.valid.limits.w_least) in
    let inside : c.args.card * g.k / g.w < g.n = (div-lt_iff_lt-mul some).1 (omega (arith, at, all, c.if-card_start-words.false)) in
    omega (arith, region, inside)
