use Rattle.std.proofs.Common.{◌≡◌, ℕ, set, ◌≤◌, ◌+◌, ◌-◌, ◌*◌, ◌/◌, length, sym, ◌∙◌, ap, subst, arith}
use Rattle.std.proofs.Math.Nat.{mul-le-mul_right}
use Rattle.g1_words.specs.Heap.{Heap, end}
use Rattle.g1_words.specs.Valid.{IsValid}
use Rattle.g1_words.specs.Words.{AreLaid}
use Rattle.g1_trace.specs.Mutator.{run_length}
use Rattle.g1_trace.specs.Placing.{run_taken}
use Rattle.g1_trace.proofs.LaidWords.{laid_run, same_heap}
use Rattle.g1_trace.proofs.Tables.{rounded_up}
use Rattle.g1_trace.proofs.Placed.{humongous_same}
use Rattle.g1_trace.proofs.allocating.place_humongous.Goals as goal

pub invariant_of-heap : goal.invariant_of-heap
invariant_of-heap c =
    let h : Heap = c.args.heap.now in
    let here = c.heap.view_is in
    let start : c.start-at.result ≡ c.args.r * h.geometry.w = c.start-at.ensures.value ∙ ap (λ (x : Heap). c.args.r * x.geometry.w) here in
    let at : c.start-at.result ≡ end h c.args.r = omega (arith, start, c.requires.free) in
    let table : c.take_run.new.regions.items ≡ run_taken h.geometry.w h.regions c.args.r c.args.size (run_length h c.args.size) =
    c.take_run.ensures ∙ ap (λ (x : Heap). run_taken x.geometry.w x.regions c.args.r c.args.size ((c.args.size + (x.geometry.w - 1)) / x.geometry.w)) here in
    let is : c.set.new.self.items ≡ set c.heap.inside.words.items c.start-at.result c.header_word.result = c.set.ensures.items ∙ ap (λ ws. set ws c.start-at.result c.header_word.result) c.lay_to.ensures.items in
    let base = subst IsValid (humongous_same h _ c.args.r c.args.size c.args.refs c.args.root c.header_word.result c.start-at.result c.take_run.new.regions.items
    here at table c.header_word.ensures) c.requires.kept in
    let valid = subst IsValid (sym (same_heap _ _ _ _ _ _ is)) base in
    let w : ℕ = c.heap.inside.geometry.w in
    let rs = c.heap.inside.regions.items in
    let m : ℕ = (c.args.size + (w - 1)) / w in
    let count : c.regions_for-count.result ≡ m = c.regions_for-count.ensures ∙ rounded_up w c.args.size (omega (arith, c.heap.invariant.0.limits.w_least)) in
    let end : c.words_of-end.result ≡ (c.args.r + m) * w = c.words_of-end.ensures.value ∙ ap (λ x. x * w) (ap (λ x. x + c.regions_for-count.result) c.from.ensures ∙ ap (λ x. c.args.r + x) count) in
    let room : (c.args.r + m) * w ≤ c.set.new.self.laid = omega (arith, c.set.ensures.laid, c.lay_to.ensures.laid, end) in
    let more : c.heap.inside.words.laid ≤ c.set.new.self.laid = omega (arith, c.set.ensures.laid, c.lay_to.ensures.laid) in
    let are : AreLaid w (run_taken w rs c.args.r c.args.size m) c.set.new.self.laid = laid_run w rs c.heap.inside.words.laid c.set.new.self.laid c.args.r c.args.size m c.heap.invariant.1 more room in
    (valid, subst (λ xs. AreLaid w xs c.set.new.self.laid) (sym c.take_run.ensures) are)

-- the run ends within the words
pub lay_to-requires : goal.lay_to-requires
lay_to-requires c =
    let valid = c.heap.invariant.0 in
    let w : ℕ = c.heap.inside.geometry.w in
    let m : ℕ = (c.args.size + (w - 1)) / w in
    let count : c.regions_for-count.result ≡ m = c.regions_for-count.ensures ∙ rounded_up w c.args.size (omega (arith, valid.limits.w_least)) in
    let run : c.args.r + m ≤ length c.heap.inside.regions.items =
    subst (λ (x : Heap). c.args.r + (c.args.size + (x.geometry.w - 1)) / x.geometry.w ≤ length x.regions) (sym c.heap.view_is) c.requires.run in
    let rows : (c.args.r + c.regions_for-count.result) * w ≤ c.heap.inside.geometry.n * w = mul-le-mul_right w (omega (arith, run, count, valid.region_count)) in
    let end : c.words_of-end.result ≡ (c.args.r + c.regions_for-count.result) * w = c.words_of-end.ensures.value ∙ ap (λ x. (x + c.regions_for-count.result) * w) c.from.ensures in
    omega (arith, rows, end, valid.word_count)

pub header_word-requires-clause-size : goal.header_word-requires-clause-size
header_word-requires-clause-size c = omega (arith, c.requires.refs)

pub header_word-requires-clause-refs : goal.header_word-requires-clause-refs
header_word-requires-clause-refs c = omega (arith, c.requires.refs)

pub take_run-requires-clause-there : goal.take_run-requires-clause-there
take_run-requires-clause-there c =
    subst (λ (x : Heap). c.args.r + (c.args.size + (x.geometry.w - 1)) / x.geometry.w ≤ length x.regions) (sym c.heap.view_is) c.requires.run

pub set-requires : goal.set-requires
set-requires c =
    let h : Heap = c.args.heap.now in
    let here = c.heap.view_is in
    let start : c.start-at.result ≡ c.args.r * h.geometry.w = c.start-at.ensures.value ∙ ap (λ (x : Heap). c.args.r * x.geometry.w) here in
    omega (arith, ap length c.lay_to.ensures.items, start, c.requires.free, c.requires.header, ap (λ (x : Heap). length x.words) here)

pub index_mut-requires : goal.index_mut-requires
index_mut-requires c = omega (arith, c.requires.root, ap (λ (x : Heap). length x.roots) c.heap.view_is)

pub returns : goal.returns
returns c =
    let h : Heap = c.args.heap.now in
    let here = c.heap.view_is in
    let start : c.start-at.result ≡ c.args.r * h.geometry.w = c.start-at.ensures.value ∙ ap (λ (x : Heap). c.args.r * x.geometry.w) here in
    let at : c.start-at.result ≡ end h c.args.r = omega (arith, start, c.requires.free) in
    let table : c.take_run.new.regions.items ≡ run_taken h.geometry.w h.regions c.args.r c.args.size (run_length h c.args.size) =
    c.take_run.ensures ∙ ap (λ (x : Heap). run_taken x.geometry.w x.regions c.args.r c.args.size ((c.args.size + (x.geometry.w - 1)) / x.geometry.w)) here in
    let is : c.set.new.self.items ≡ set c.heap.inside.words.items c.start-at.result c.header_word.result = c.set.ensures.items ∙ ap (λ ws. set ws c.start-at.result c.header_word.result) c.lay_to.ensures.items in
    same_heap _ _ _ _ _ _ is ∙ sym (humongous_same h _ c.args.r c.args.size c.args.refs c.args.root c.header_word.result c.start-at.result c.take_run.new.regions.items
    here at table c.header_word.ensures)
