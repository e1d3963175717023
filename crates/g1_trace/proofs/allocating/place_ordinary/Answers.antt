use Rattle.std.proofs.Common.{◌≡◌, ◌≤◌, ℕ, set, ◌+◌, ◌*◌, ◌<◌, length, get_or, sym, ◌∙◌, ap, subst, arith}
use Rattle.std.proofs.Math.Nat.{mul-le-mul_right}
use Rattle.std.proofs.lemmas.List.{get_or_default}
use Rattle.g1_words.specs.declared.region.Region.{Region}
use Rattle.g1_words.specs.Heap.{Heap, free_region, top, end}
use Rattle.g1_words.specs.Valid.{IsValid}
use Rattle.g1_trace.proofs.LaidWords.{laid_one, same_heap}
use Rattle.g1_trace.proofs.Placed.{ordinary_same}
use Rattle.g1_trace.proofs.allocating.place_ordinary.Goals as goal

pub invariant_of-heap : goal.invariant_of-heap
invariant_of-heap c =
    let h : Heap = c.args.heap.now in
    let here = c.heap.view_is in
    let there : c.args.r < length c.heap.inside.regions.items = omega (arith, c.requires.region, ap (λ (x : Heap). length x.regions) here) in
    let read : c.index.result.now ≡ get_or h.regions c.args.r free_region =
    c.index.ensures ∙ get_or_default c.heap.inside.regions.items c.args.r c.index.result.now free_region there ∙ ap (λ (x : Heap). get_or x.regions c.args.r free_region) here in
    let used : c.index.result.now.top ≡ top h c.args.r = ap (λ (x : Region). x.top) read in
    let start : c.start.result ≡ c.args.r * h.geometry.w = c.start.ensures.value ∙ ap (λ (x : Heap). c.args.r * x.geometry.w) here in
    let at : c.start.result + c.from.result ≡ end h c.args.r = (λ t. start t + (c.from.ensures ∙ used) t) in
    let is : c.set.new.self.items ≡ set c.heap.inside.words.items (c.start.result + c.from.result) c.header_word.result = c.set.ensures.items ∙ ap (λ ws. set ws (c.start.result + c.from.result) c.header_word.result) c.lay_to.ensures.items in
    let base = subst IsValid (ordinary_same h _ c.args.r c.args.size c.args.refs c.args.root c.header_word.result (c.start.result + c.from.result)
    (c.index.result.now.top + c.args.size) c.index.result.now.pinned here at (ap (λ x. x + c.args.size) used) (ap (λ (x : Region). x.pinned) read) c.header_word.ensures) c.requires.kept in
    let valid = subst IsValid (sym (same_heap _ _ _ _ _ _ is)) base in
    let w : ℕ = c.heap.inside.geometry.w in
    let room : (c.args.r + 1) * w ≤ c.set.new.self.laid = omega (arith, c.set.ensures.laid, c.lay_to.ensures.laid, c.start-end.ensures.value) in
    let more : c.heap.inside.words.laid ≤ c.set.new.self.laid = omega (arith, c.set.ensures.laid, c.lay_to.ensures.laid) in
    (valid, laid_one w c.heap.inside.regions.items c.heap.inside.words.laid c.set.new.self.laid c.args.r _ c.heap.invariant.1 more room)

-- the region ends within the words
pub lay_to-requires : goal.lay_to-requires
lay_to-requires c =
    let valid = c.heap.invariant.0 in
    let w : ℕ = c.heap.inside.geometry.w in
    let rows : (c.args.r + 1) * w ≤ c.heap.inside.geometry.n * w = mul-le-mul_right w (omega (arith, c.requires.region, ap (λ (x : Heap). length x.regions) c.heap.view_is, valid.region_count)) in
    omega (arith, rows, c.start-end.ensures.value, valid.word_count)

pub returns : goal.returns
returns c =
    let h : Heap = c.args.heap.now in
    let here = c.heap.view_is in
    let there : c.args.r < length c.heap.inside.regions.items = omega (arith, c.requires.region, ap (λ (x : Heap). length x.regions) here) in
    let read : c.index.result.now ≡ get_or h.regions c.args.r free_region =
    c.index.ensures ∙ get_or_default c.heap.inside.regions.items c.args.r c.index.result.now free_region there ∙ ap (λ (x : Heap). get_or x.regions c.args.r free_region) here in
    let used : c.index.result.now.top ≡ top h c.args.r = ap (λ (x : Region). x.top) read in
    let start : c.start.result ≡ c.args.r * h.geometry.w = c.start.ensures.value ∙ ap (λ (x : Heap). c.args.r * x.geometry.w) here in
    let at : c.start.result + c.from.result ≡ end h c.args.r = (λ t. start t + (c.from.ensures ∙ used) t) in
    let is : c.set.new.self.items ≡ set c.heap.inside.words.items (c.start.result + c.from.result) c.header_word.result = c.set.ensures.items ∙ ap (λ ws. set ws (c.start.result + c.from.result) c.header_word.result) c.lay_to.ensures.items in
    same_heap _ _ _ _ _ _ is ∙ sym (ordinary_same h _ c.args.r c.args.size c.args.refs c.args.root c.header_word.result (c.start.result + c.from.result)
    (c.index.result.now.top + c.args.size) c.index.result.now.pinned here at (ap (λ x. x + c.args.size) used) (ap (λ (x : Region). x.pinned) read) c.header_word.ensures)

pub index-requires : goal.index-requires
index-requires c = omega (arith, c.requires.region, ap (λ (x : Heap). length x.regions) c.heap.view_is)

pub set-requires : goal.set-requires
set-requires c =
    let h : Heap = c.args.heap.now in
    let here = c.heap.view_is in
    let there : c.args.r < length c.heap.inside.regions.items = omega (arith, c.requires.region, ap (λ (x : Heap). length x.regions) here) in
    let read : c.index.result.now ≡ get_or h.regions c.args.r free_region =
    c.index.ensures ∙ get_or_default c.heap.inside.regions.items c.args.r c.index.result.now free_region there ∙ ap (λ (x : Heap). get_or x.regions c.args.r free_region) here in
    let used : c.index.result.now.top ≡ top h c.args.r = ap (λ (x : Region). x.top) read in
    let start : c.start.result ≡ c.args.r * h.geometry.w = c.start.ensures.value ∙ ap (λ (x : Heap). c.args.r * x.geometry.w) here in
    omega (arith, ap length c.lay_to.ensures.items, start, used, c.from.ensures, c.requires.header, ap (λ (x : Heap). length x.words) here)

pub index_mut-requires : goal.index_mut-requires
index_mut-requires c = omega (arith, c.requires.root, ap (λ (x : Heap). length x.roots) c.heap.view_is)

pub overflow_cast-size : goal.overflow_cast-size
overflow_cast-size c = omega (arith, c.requires.fits)

pub index_mut-requires-2 : goal.index_mut-requires-2
index_mut-requires-2 c = omega (arith, c.requires.region, ap (λ (x : Heap). length x.regions) c.heap.view_is)
