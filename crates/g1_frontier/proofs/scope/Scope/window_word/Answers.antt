use Rattle.std.proofs.Common.{arith, ◌≡◌, ◌<◌, ◌+◌, ◌-◌, ◌*◌, ◌/◌, ◌%◌, ◌∙◌, ap, sym, subst, length, get_or, ℕ, true}
use Rattle.g1_frontier.specs.Scope.{inside}
use Rattle.g1_frontier.specs.Window.{position, place}
use Rattle.g1_frontier.proofs.Places.{past_regions, place_below}
use Rattle.g1_frontier.proofs.Positions.{none_noted, some_noted, offset_is}
use Rattle.g1_frontier.proofs.Scopes.{some_words, words_fit}
use Rattle.g1_frontier.proofs.scope.Scope.window_word.Goals as goal
use Rattle.g1_frontier.proofs.scope.Scope.window_word.Goals.{After-from}

pub returns-then-region-regions-clause-none : goal.returns-then-region-regions-clause-none
returns-then-region-regions-clause-none c =
    let s = c.args.self.now in
    let same = c.geometry-geometry.ensures.same in
    let region : c.region_of-region.result ≡ c.args.address / s.heap.now.geometry.w = c.region_of-region.ensures ∙ ap (λ g. c.args.address / g.w) same in
    let count : c.regions.result ≡ s.heap.now.geometry.n = c.regions.ensures.value ∙ ap (λ g. g.n) same in
    past_regions s.heap.now.geometry.n s.window.now (c.args.address / s.heap.now.geometry.w) c.requires.scope.regions.below (omega (arith, c.if-region-regions.true, region, count))

pub offset_bounds-self-region : goal.offset_bounds-self-region
offset_bounds-self-region c = omega (arith, c.if-region-regions.false, c.regions.ensures.value, c.regions.ensures.limits.n_most)

pub bounds-self-region : goal.bounds-self-region
bounds-self-region c =
    let count : c.regions.result ≡ c.args.self.now.heap.now.geometry.n = c.regions.ensures.value ∙ ap (λ g. g.n) c.geometry-geometry.ensures.same in
    omega (arith, c.if-region-regions.false, count, c.requires.scope.count)

pub returns-then-position-eq0-clause-none : goal.returns-then-position-eq0-clause-none
returns-then-position-eq0-clause-none c =
    let s = c.args.self.now in
    let region : c.region_of-region.result ≡ c.args.address / s.heap.now.geometry.w = c.region_of-region.ensures ∙ ap (λ g. c.args.address / g.w) c.geometry-geometry.ensures.same in
    none_noted s.window.now s.positions.now (c.args.address / s.heap.now.geometry.w) (get_or s.positions.now c.region_of-region.result 0) c.requires.scope.positions
    (ap (λ r. get_or s.positions.now r 0) region) c.if-position-eq0.true

pub overflow_cast-region : goal.overflow_cast-region
overflow_cast-region c = omega (arith, c.if-region-regions.false, c.regions.ensures.value, c.regions.ensures.limits.n_most)

pub overflow_sub-offset : goal.overflow_sub-offset
overflow_sub-offset c =
    let w : ℕ = c.geometry-geometry.result.w in
    let start : c.start.result ≡ c.args.address / w * w = c.start.ensures.value ∙ ap (λ r. r * w) c.region_of-region.ensures in
    omega (arith, start, (offset_is w c.args.address).0)

pub overflow_sub-position : goal.overflow_sub-position
overflow_sub-position c = omega (arith, c.if-position-eq0.false)

-- the address is in the window, and where it stands among its words
stands : (c : After-from) → (inside c.args.self.now c.args.address ≡ true)
    × (c.from.result * c.region_words-width.result + (c.args.address - c.start.result) ≡ place c.args.self.now.heap.now c.args.self.now.window.now c.args.address)
stands c =
    let s = c.args.self.now in
    let a : ℕ = c.args.address in
    let w : ℕ = s.heap.now.geometry.w in
    let same = c.geometry-geometry.ensures.same in
    let region : c.region_of-region.result ≡ a / w = c.region_of-region.ensures ∙ ap (λ g. a / g.w) same in
    let width : c.region_words-width.result ≡ w = c.region_words-width.ensures.value ∙ ap (λ g. g.w) same in
    let v : ℕ = get_or s.positions.now c.region_of-region.result 0 in
    let f = some_noted s.window.now s.positions.now (a / w) v c.requires.scope.positions (ap (λ r. get_or s.positions.now r 0) region) c.if-position-eq0.false in
    let stands : c.from.result ≡ position s.window.now (a / w) = omega (arith, c.from.ensures, f.1) in
    let start : c.start.result ≡ a / w * w = c.start.ensures.value ∙ (λ i. region i * (same i).w) in
    let offset : a - c.start.result ≡ a % w = (λ i. a - start i) ∙ (offset_is w a).1 in
    (f.0, λ i. stands i * width i + offset i)

pub overflow_mul-result : goal.overflow_mul-result
overflow_mul-result c =
    let s = c.args.self.now in
    let t = stands c in
    omega (arith, t.1, place_below s.heap.now s.window.now (some_words s c.requires.scope) c.args.address t.0, words_fit s c.requires.scope)

pub overflow_add-result : goal.overflow_add-result
overflow_add-result c =
    let s = c.args.self.now in
    let t = stands c in
    omega (arith, t.1, place_below s.heap.now s.window.now (some_words s c.requires.scope) c.args.address t.0, words_fit s c.requires.scope)

pub returns-clause-found : goal.returns-clause-found
returns-clause-found c =
    let s = c.args.self.now in
    let t = stands c in
    (t.0, t.1, subst (λ x. x < length s.window.now * s.heap.now.geometry.w) (sym t.1) (place_below s.heap.now s.window.now (some_words s c.requires.scope) c.args.address t.0))
