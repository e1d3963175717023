use Rattle.std.proofs.Common.{arith, ℕ, List, [], ◌∷◌, ◌++◌, ◌≡◌, ◌<◌, ◌+◌, ◌*◌, ◌/◌, ◌^◌, ◌∙◌, ap, sym, subst, length, get_or, take, set, Contains}
use Rattle.std.proofs.lemmas.List.{take_more, take_all}
use Rattle.g1_words.specs.Heap.{word, region_of, object_at, objects}
use Rattle.g1_words.specs.Lists.{has}
use Rattle.g1_frontier.proofs.Scopes.{read}
use Rattle.g1_mark.proofs.Counting.{AreBytesOf, zeros, bytes_few, bytes_here, region_there, word_there, counted_more, counted_none, counted_all, not_before}
use Rattle.g1_mark.proofs.bytes.bytes_at.Goals as goal

pub loop-address-init : goal.loop-address-init
loop-address-init c = counted_none c.args.heap.now c.geometry-geometry.ensures.valid c.in_ok-bytes.bytes.items (c.in_ok-bytes.ensures.items_if_clones_equal (λ y same. same)
    ∙ ap zeros (c.regions.ensures.value ∙ ap (λ g. g.n) c.geometry-geometry.ensures.same))

pub size_at-requires : goal.size_at-requires
size_at-requires c =
    let h = c.args.heap.now in
    let a : ℕ = get_or c.args.addresses.now c.loop-address.address-index 0 in
    let object : Contains (objects h) (object_at h a) = c.requires.objects c.loop-address.address-index 0 c.loop-address-test.true in
    word_there h c.geometry-geometry.ensures.valid a object

pub index_mut-requires : goal.index_mut-requires
index_mut-requires c =
    let h = c.args.heap.now in
    let a : ℕ = get_or c.args.addresses.now c.loop-address.address-index 0 in
    let object : Contains (objects h) (object_at h a) = c.requires.objects c.loop-address.address-index 0 c.loop-address-test.true in
    let region : c.region_of-region.result ≡ region_of h a = c.region_of-region.ensures ∙ ap (λ g. a / g.w) c.geometry-geometry.ensures.same in
    omega (arith, region, region_there h c.geometry-geometry.ensures.valid a object, c.loop-address.invariant.one_each, c.loop-address.bytes.ok)

pub overflow_add-index_mut : goal.overflow_add-index_mut
overflow_add-index_mut c =
    let h = c.args.heap.now in
    let valid = c.geometry-geometry.ensures.valid in
    let a : ℕ = get_or c.args.addresses.now c.loop-address.address-index 0 in
    let front : List ℕ = take c.loop-address.address-index c.args.addresses.now in
    let object : Contains (objects h) (object_at h a) = c.requires.objects c.loop-address.address-index 0 c.loop-address-test.true in
    let region : c.region_of-region.result ≡ region_of h a = c.region_of-region.ensures ∙ ap (λ g. a / g.w) c.geometry-geometry.ensures.same in
    let there = region_there h valid a object in
    let low : region_of h a < length c.loop-address.bytes.items = omega (arith, there, c.loop-address.invariant.one_each) in
    let is : get_or c.loop-address.bytes.items (region_of h a) 0 ≡ c.index_mut.result.now =
    read c.loop-address.bytes.items c.region_of-region.result (region_of h a) c.index_mut.result.now c.index_mut.result.now 0 region low c.index_mut.ensures.value (λ i. c.index_mut.result.now) in
    let size : c.size_at.result ≡ word h a / 2 ^ 32 = c.size_at.ensures in
    let here = bytes_here h valid a object front (not_before c.args.addresses.now c.loop-address.address-index c.requires.once c.loop-address-test.true) in
    let few = bytes_few h valid (has (front ++ a ∷ [])) (region_of h a) there in
    omega (arith, is, size, here, few, c.loop-address.invariant.each (region_of h a) there)

pub loop-address-preserved : goal.loop-address-preserved
loop-address-preserved c =
    let h = c.args.heap.now in
    let valid = c.geometry-geometry.ensures.valid in
    let i : ℕ = c.loop-address.address-index in
    let xs : List ℕ = c.args.addresses.now in
    let a : ℕ = get_or c.args.addresses.now c.loop-address.address-index 0 in
    let bytes : List ℕ = c.loop-address.bytes.items in
    let object : Contains (objects h) (object_at h a) = c.requires.objects c.loop-address.address-index 0 c.loop-address-test.true in
    let region : c.region_of-region.result ≡ region_of h a = c.region_of-region.ensures ∙ ap (λ g. a / g.w) c.geometry-geometry.ensures.same in
    let low : c.region_of-region.result < length c.loop-address.bytes.items = omega (arith, region, region_there h valid a object, c.loop-address.invariant.one_each) in
    let is : get_or c.loop-address.bytes.items c.region_of-region.result 0 ≡ c.index_mut.result.now =
    read c.loop-address.bytes.items c.region_of-region.result c.region_of-region.result c.index_mut.result.now c.index_mut.result.now 0
    (λ i. c.region_of-region.result) low c.index_mut.ensures.value (λ i. c.index_mut.result.now) in
    let told : c.size_at.result ≡ word h a / 2 ^ 32 = c.size_at.ensures in
    subst (λ l. AreBytesOf h l (set c.loop-address.bytes.items c.region_of-region.result (c.index_mut.result.now + 8 * c.size_at.result)))
    (sym (take_more c.args.addresses.now c.loop-address.address-index 0 c.loop-address-test.true))
    (subst (λ v. AreBytesOf h (take c.loop-address.address-index c.args.addresses.now
    ++ get_or c.args.addresses.now c.loop-address.address-index 0 ∷ []) (set c.loop-address.bytes.items c.region_of-region.result (v + 8 * c.size_at.result))) is
    (counted_more h valid a object (take c.loop-address.address-index c.args.addresses.now)
    (not_before c.args.addresses.now c.loop-address.address-index c.requires.once c.loop-address-test.true) c.loop-address.bytes.items
    c.region_of-region.result c.size_at.result c.loop-address.invariant region told))

pub returns : goal.returns
returns c =
    let h = c.args.heap.now in
    let all : take c.loop-address.address-index c.args.addresses.now ≡ c.args.addresses.now = take_all c.loop-address.address-index c.args.addresses.now c.loop-address-test.false in
    counted_all h c.geometry-geometry.ensures.valid c.args.addresses.now c.loop-address.bytes.items (subst (λ l. AreBytesOf h l c.loop-address.bytes.items) all c.loop-address.invariant)
