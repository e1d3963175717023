use Rattle.std.proofs.Common.{arith, ℕ, List, [], ◌∷◌, ◌++◌, ◌≡◌, ◌<◌, ◌+◌, ◌*◌, ◌/◌, ◌^◌, ◌∙◌, ap, sym, subst, length, get_or, take, set, Contains}
use Rattle.std.proofs.lemmas.List.{length-map, take_more, take_all}
use Rattle.g1_words.specs.Heap.{word, region_of, object_at, objects}
use Rattle.g1_words.specs.Lists.{has}
use Rattle.g1_frontier.proofs.Scopes.{read}
use Rattle.g1_mark.proofs.Counting.{AreBytesOf, size_there, zeros, bytes_few, bytes_here, region_there, counted_more, counted_none, counted_all, not_before}
use Rattle.g1_mark.proofs.bytes.bytes_of.Goals as goal

pub loop-index-init : goal.loop-index-init
loop-index-init c = counted_none c.args.heap.now c.geometry-geometry.ensures.valid c.in_ok-bytes.bytes.items (c.in_ok-bytes.ensures.items_if_clones_equal (λ y same. same)
    ∙ ap zeros (c.regions.ensures.value ∙ ap (λ g. g.n) c.geometry-geometry.ensures.same))

pub bounds-sizes-index : goal.bounds-sizes-index
bounds-sizes-index c = omega (arith, ap length c.requires.sizes, length-map c.args.addresses.now (λ a. (object_at c.args.heap.now a).size), c.loop-index-test.true)

pub index_mut-requires : goal.index_mut-requires
index_mut-requires c =
    let h = c.args.heap.now in
    let a : ℕ = get_or c.args.addresses.now c.loop-index.index 0 in
    let object : Contains (objects h) (object_at h a) = c.requires.objects c.loop-index.index 0 c.loop-index-test.true in
    let region : c.region_of-region.result ≡ region_of h a = c.region_of-region.ensures ∙ ap (λ g. a / g.w) c.geometry-geometry.ensures.same in
    omega (arith, region, region_there h c.geometry-geometry.ensures.valid a object, c.loop-index.invariant.one_each, c.loop-index.bytes.ok)

pub overflow_add-index_mut : goal.overflow_add-index_mut
overflow_add-index_mut c =
    let h = c.args.heap.now in
    let valid = c.geometry-geometry.ensures.valid in
    let a : ℕ = get_or c.args.addresses.now c.loop-index.index 0 in
    let front : List ℕ = take c.loop-index.index c.args.addresses.now in
    let object : Contains (objects h) (object_at h a) = c.requires.objects c.loop-index.index 0 c.loop-index-test.true in
    let region : c.region_of-region.result ≡ region_of h a = c.region_of-region.ensures ∙ ap (λ g. a / g.w) c.geometry-geometry.ensures.same in
    let there = region_there h valid a object in
    let low : region_of h a < length c.loop-index.bytes.items = omega (arith, there, c.loop-index.invariant.one_each) in
    let is : get_or c.loop-index.bytes.items (region_of h a) 0 ≡ c.index_mut.result.now =
    read c.loop-index.bytes.items c.region_of-region.result (region_of h a) c.index_mut.result.now c.index_mut.result.now 0 region low c.index_mut.ensures.value (λ i. c.index_mut.result.now) in
    let size : c.from.result ≡ word h a / 2 ^ 32 = size_there h c.args.addresses.now c.args.sizes.now c.loop-index.index c.from.result c.requires.sizes c.loop-index-test.true c.from.ensures in
    let here = bytes_here h valid a object front (not_before c.args.addresses.now c.loop-index.index c.requires.once c.loop-index-test.true) in
    let few = bytes_few h valid (has (front ++ a ∷ [])) (region_of h a) there in
    omega (arith, is, size, here, few, c.loop-index.invariant.each (region_of h a) there)

pub loop-index-preserved : goal.loop-index-preserved
loop-index-preserved c =
    let h = c.args.heap.now in
    let valid = c.geometry-geometry.ensures.valid in
    let i : ℕ = c.loop-index.index in
    let xs : List ℕ = c.args.addresses.now in
    let a : ℕ = get_or c.args.addresses.now c.loop-index.index 0 in
    let bytes : List ℕ = c.loop-index.bytes.items in
    let object : Contains (objects h) (object_at h a) = c.requires.objects c.loop-index.index 0 c.loop-index-test.true in
    let region : c.region_of-region.result ≡ region_of h a = c.region_of-region.ensures ∙ ap (λ g. a / g.w) c.geometry-geometry.ensures.same in
    let low : c.region_of-region.result < length c.loop-index.bytes.items = omega (arith, region, region_there h valid a object, c.loop-index.invariant.one_each) in
    let is : get_or c.loop-index.bytes.items c.region_of-region.result 0 ≡ c.index_mut.result.now =
    read c.loop-index.bytes.items c.region_of-region.result c.region_of-region.result c.index_mut.result.now c.index_mut.result.now 0
    (λ i. c.region_of-region.result) low c.index_mut.ensures.value (λ i. c.index_mut.result.now) in
    let told : c.from.result ≡ word h a / 2 ^ 32 = size_there h c.args.addresses.now c.args.sizes.now c.loop-index.index c.from.result c.requires.sizes c.loop-index-test.true c.from.ensures in
    subst (λ l. AreBytesOf h l (set c.loop-index.bytes.items c.region_of-region.result (c.index_mut.result.now + 8 * c.from.result)))
    (sym (take_more c.args.addresses.now c.loop-index.index 0 c.loop-index-test.true))
    (subst (λ v. AreBytesOf h (take c.loop-index.index c.args.addresses.now
    ++ get_or c.args.addresses.now c.loop-index.index 0 ∷ []) (set c.loop-index.bytes.items c.region_of-region.result (v + 8 * c.from.result))) is
    (counted_more h valid a object (take c.loop-index.index c.args.addresses.now)
    (not_before c.args.addresses.now c.loop-index.index c.requires.once c.loop-index-test.true) c.loop-index.bytes.items
    c.region_of-region.result c.from.result c.loop-index.invariant region told))

pub returns : goal.returns
returns c =
    let h = c.args.heap.now in
    let all : take c.loop-index.index c.args.addresses.now ≡ c.args.addresses.now = take_all c.loop-index.index c.args.addresses.now c.loop-index-test.false in
    counted_all h c.geometry-geometry.ensures.valid c.args.addresses.now c.loop-index.bytes.items (subst (λ l. AreBytesOf h l c.loop-index.bytes.items) all c.loop-index.invariant)
