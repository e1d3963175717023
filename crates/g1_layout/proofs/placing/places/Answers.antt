use Rattle.std.proofs.Common.{◌≡◌, ◌≤◌, ◌+◌, ◌-◌, ◌*◌, ◌/◌, ◌%◌, ◌++◌, ◌∷◌, [], ℕ, ◌^◌, length, get_or, ap, subst, sym, ◌∙◌, arith, div-add-mod'}
use Rattle.std.proofs.Math.Nat.{mul-le-mul_right}
use Rattle.std.proofs.lemmas.List.{length-take-le}
use Rattle.g1_words.specs.Heap.{object_at}
use Rattle.g1_words.specs.Layout.{free_regions, need, next_fit, to_space}
use Rattle.g1_layout.proofs.Counted.{one_each, size_read}
use Rattle.g1_layout.proofs.Laying.{Laying-in_need, Placing, Placing-end, Placing-step, next_fit_most}
use Rattle.g1_layout.proofs.placing.places.Goals as goal

-- what is left of an address once its region's words are taken off
offset : (a w n v : ℕ) → n ≡ a / w → v ≡ n * w → a - v ≡ a % w
offset a w n v e f = let parts : a / w * w + a % w ≡ a = div-add-mod' a w in let whole : v ≡ a / w * w = f ∙ ap (λ x. x * w) e in omega (arith, parts, whole)

-- a region begins at or below each of its addresses
region_start : (a w n : ℕ) → n ≡ a / w → n * w ≤ a
region_start a w n e = let parts : a / w * w + a % w ≡ a = div-add-mod' a w in let whole : n * w ≡ a / w * w = ap (λ x. x * w) e in omega (arith, parts, whole)

pub bounds-sizes-i : goal.bounds-sizes-i
bounds-sizes-i c = let count = one_each c.args.batch.now.heap.now c.args.batch.now.survivors.now c.args.batch.now.sizes.now c.requires.sizes in omega (arith, count, c.loop-i-test.true)

pub bounds-to_space-number : goal.bounds-to_space-number
bounds-to_space-number c =
    let h = c.args.batch.now.heap.now in
    let l = c.args.batch.now.survivors.now in
    let size = c.from-size.result in
    let read : size ≡ (object_at h (get_or l c.loop-i.i 0)).size = c.from-size.ensures ∙ size_read h l c.args.batch.now.sizes.now c.loop-i.i c.requires.sizes c.loop-i-test.true in
    let same = c.geometry-geometry.ensures.same in
    let at : c.next_fit-at.result ≡ next_fit h.geometry.w c.loop-i.end size = c.next_fit-at.ensures ∙ ap (λ g. next_fit g.w c.loop-i.end size) same in
    let region : c.region_of-number.result ≡ next_fit h.geometry.w c.loop-i.end size / h.geometry.w = c.region_of-number.ensures ∙ (λ t. at t / (same t).w) in
    let count : length c.args.batch.now.to_space.now ≡ need h l = ap length c.requires.regions ∙ length-take-le (need h l) (free_regions h) c.requires.room in
    let below = Laying-in_need h l c.loop-i.i c.loop-i.end size (omega (arith, c.geometry-geometry.ensures.valid.limits.w_least))
    c.requires.fits c.loop-i.invariant.laying c.loop-i-test.true read in
    omega (arith, region, count, below)

pub overflow_add-start : goal.overflow_add-start
overflow_add-start c =
    let r = get_or c.args.batch.now.to_space.now c.region_of-number.result 0 in
    let left = offset c.next_fit-at.result c.geometry-geometry.result.w c.region_of-number.result c.words_of.result c.region_of-number.ensures c.words_of.ensures.value in
    let most : r * c.geometry-geometry.result.w ≤ (2 ^ 32 - 1) * c.geometry-geometry.result.w =
    mul-le-mul_right c.geometry-geometry.result.w (omega (arith, c.type_inv.to_space c.region_of-number.result)) in
    omega (arith, left, most, c.start.ensures.value, c.start.ensures.limits.w_most, c.start.ensures.limits.w_least)

pub loop-i-preserved : goal.loop-i-preserved
loop-i-preserved c =
    let h = c.args.batch.now.heap.now in
    let l = c.args.batch.now.survivors.now in
    let i = c.loop-i.i in
    let size = c.from-size.result in
    let read : size ≡ (object_at h (get_or l c.loop-i.i 0)).size = c.from-size.ensures ∙ size_read h l c.args.batch.now.sizes.now c.loop-i.i c.requires.sizes c.loop-i-test.true in
    let same = c.geometry-geometry.ensures.same in
    let r = get_or c.args.batch.now.to_space.now c.region_of-number.result 0 in
    let ps = c.loop-i.places.items in
    let at : c.next_fit-at.result ≡ next_fit h.geometry.w c.loop-i.end size = c.next_fit-at.ensures ∙ ap (λ g. next_fit g.w c.loop-i.end size) same in
    let number : c.region_of-number.result ≡ next_fit h.geometry.w c.loop-i.end size / h.geometry.w = c.region_of-number.ensures ∙ (λ t. at t / (same t).w) in
    let region : r ≡ get_or (to_space h l) (next_fit h.geometry.w c.loop-i.end size / h.geometry.w) 0 = (λ t. get_or (c.requires.regions t) (number t) 0) in
    let start : c.start.result ≡ r * h.geometry.w = c.start.ensures.value ∙ ap (λ g. r * g.w) same in
    let left : c.next_fit-at.result - c.words_of.result ≡ next_fit h.geometry.w c.loop-i.end size % h.geometry.w =
    offset c.next_fit-at.result c.geometry-geometry.result.w c.region_of-number.result c.words_of.result c.region_of-number.ensures
    c.words_of.ensures.value ∙ (λ t. at t % (same t).w) in
    let items : c.push.new.self.items ≡ ps ++ (r * h.geometry.w + next_fit h.geometry.w c.loop-i.end size % h.geometry.w) ∷ [] = c.in_ok-push.ensures.items ∙ (λ t. ps ++ (start t + left t) ∷ []) in
    let step = Placing-step h l i c.loop-i.end size r ps (omega (arith, c.geometry-geometry.ensures.valid.limits.w_least))
    c.geometry-geometry.ensures.valid.limits.w_most c.requires.fits c.loop-i.invariant c.loop-i-test.true read region in
    subst (λ e. Placing h l (i + 1) e c.push.new.self.items) (ap (λ x. x + size) (sym at))
    (subst (λ xs. Placing h l (i + 1) (next_fit h.geometry.w c.loop-i.end size + size) xs) (sym items) step)

pub loop-i-smaller : goal.loop-i-smaller
loop-i-smaller c = omega (arith, c.loop-i-test.true)

pub next_fit-at-requires : goal.next_fit-at-requires
next_fit-at-requires c =
    let read = c.from-size.ensures ∙ size_read c.args.batch.now.heap.now c.args.batch.now.survivors.now c.args.batch.now.sizes.now c.loop-i.i c.requires.sizes c.loop-i-test.true in
    omega (arith, read, c.requires.fits.small c.loop-i.i 0 c.loop-i-test.true, c.loop-i.invariant.laying.near)

pub words_of-requires : goal.words_of-requires
words_of-requires c = let start = region_start c.next_fit-at.result c.geometry-geometry.result.w c.region_of-number.result c.region_of-number.ensures in omega (arith, start)

pub overflow_sub-at : goal.overflow_sub-at
overflow_sub-at c = let start = region_start c.next_fit-at.result c.geometry-geometry.result.w c.region_of-number.result c.region_of-number.ensures in omega (arith, start)

pub overflow_add-end : goal.overflow_add-end
overflow_add-end c =
    let read = c.from-size.ensures ∙ size_read c.args.batch.now.heap.now c.args.batch.now.survivors.now c.args.batch.now.sizes.now c.loop-i.i c.requires.sizes c.loop-i-test.true in
    let most = next_fit_most c.geometry-geometry.result.w c.loop-i.end c.from-size.result in
    omega (arith, read, most, c.requires.fits.small c.loop-i.i 0 c.loop-i-test.true, c.loop-i.invariant.laying.near)

pub returns : goal.returns
returns c =
    Placing-end c.args.batch.now.heap.now c.args.batch.now.survivors.now c.loop-i.i c.loop-i.end c.loop-i.places.items c.loop-i.invariant (omega (arith, c.loop-i-test.false, c.loop-i.auto.i-end))
