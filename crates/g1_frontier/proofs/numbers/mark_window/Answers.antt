use Rattle.std.proofs.Common.{arith, ap, ◌≡◌, ◌≤◌, ◌<◌, ◌+◌, ◌*◌, ◌/◌, ◌%◌, ◌∙◌, subst, sym, refl, ℕ, length, replicate, get_or, min, false}
use Rattle.std.proofs.Math.Nat.{mul-le-mul_right}
use Rattle.std.proofs.lemmas.List.{length-replicate}
use Rattle.g1_words.specs.Geometry.{most_words}
use Rattle.g1_words.specs.Marks.{marks_of}
use Rattle.g1_words.proofs.Bits.{marks_of-none}
use Rattle.g1_frontier.specs.Numbers.{and_marked, places_from}
use Rattle.g1_frontier.proofs.Numberings.{places_to, marked_region, starts_marked}
use Rattle.g1_frontier.proofs.Searching.{window_few}
use Rattle.g1_frontier.proofs.numbers.mark_window.Goals as goal
use Rattle.g1_frontier.proofs.numbers.mark_window.Goals.{After-region_words-width, In_ok-starts}

-- the window's words, as they were counted
words_read : (c : After-region_words-width) → length c.args.window.now * c.region_words-width.result ≡ length c.args.window.now * c.args.heap.now.geometry.w
words_read c = ap (λ x. length c.args.window.now * x) (c.region_words-width.ensures.value ∙ ap (λ g. g.w) c.geometry.ensures.same)

pub overflow_mul-words : goal.overflow_mul-words
overflow_mul-words c =
    let few = window_few c.args.heap.now c.geometry.ensures.valid c.args.window.now c.requires in
    omega (arith, few, words_read (goal.at.overflow_mul-words c).After-region_words-width)

pub loop-index-init : goal.loop-index-init
loop-index-init c =
    let zeros = c.in_ok-starts.ensures.items_if_clones_equal (λ y same. same) in
    let n : ℕ = length c.in_ok-starts.starts.items in
    let long : n ≡ c.div_ceil.result = ap length zeros ∙ length-replicate c.div_ceil.result 0 in
    record {
      marked = ap (marks_of (64 * n)) zeros ∙ marks_of-none (64 * n) c.div_ceil.result (omega (arith, long));
      same = refl;
    }

-- as many bits as words, and no more than a heap may have words
room : (words bits : ℕ) → words ≤ most_words → bits ≡ words / 64 + min 1 (words % 64) → (words ≤ 64 * bits) × (64 * bits ≤ most_words)
room words bits few e = (omega (arith, few, e), omega (arith, few, e))

-- and no word of bits more
no_more : (words bits : ℕ) → bits ≡ words / 64 + min 1 (words % 64) → 64 * bits < words + 64
no_more words bits e = omega (arith, e)

-- there is a word of bits for each 64 words of the window
long : (c : In_ok-starts) → length c.in_ok-starts.starts.items ≡ length c.args.window.now * c.args.heap.now.geometry.w / 64 + min 1 (length c.args.window.now * c.args.heap.now.geometry.w % 64)
long c =
    let width : c.region_words-width.result ≡ c.args.heap.now.geometry.w = c.region_words-width.ensures.value ∙ ap (λ g. g.w) c.geometry.ensures.same in
    ap length (c.in_ok-starts.ensures.items_if_clones_equal (λ y same. same)) ∙ length-replicate c.div_ceil.result 0 ∙ c.div_ceil.ensures
    ∙ ap (λ x. length c.args.window.now * x / 64 + min 1 (length c.args.window.now * x % 64)) width

pub overflow_mul-index : goal.overflow_mul-index
overflow_mul-index c =
    let few = window_few c.args.heap.now c.geometry.ensures.valid c.args.window.now c.requires in
    let less : c.loop-index.index * c.region_words-width.result ≤ length c.args.window.now * c.region_words-width.result =
    mul-le-mul_right c.region_words-width.result (omega (arith, c.loop-index-test.true)) in
    omega (arith, few, less, words_read (goal.at.overflow_mul-index c).After-region_words-width)

pub mark_region-requires-clause-room : goal.mark_region-requires-clause-room
mark_region-requires-clause-room c =
    let width : c.region_words-width.result ≡ c.args.heap.now.geometry.w = c.region_words-width.ensures.value ∙ ap (λ g. g.w) c.geometry.ensures.same in
    let less : (c.loop-index.index + 1) * c.args.heap.now.geometry.w ≤ length c.args.window.now * c.args.heap.now.geometry.w =
    mul-le-mul_right c.args.heap.now.geometry.w (omega (arith, c.loop-index-test.true)) in
    let first : c.loop-index.index * c.region_words-width.result ≡ c.loop-index.index * c.args.heap.now.geometry.w = ap (λ x. c.loop-index.index * x) width in
    let wide = room (length c.args.window.now * c.args.heap.now.geometry.w) (length c.loop-index.starts.items) (window_few c.args.heap.now c.geometry.ensures.valid c.args.window.now c.requires)
    (c.loop-index.invariant.same ∙ long (goal.at.mark_region-requires-clause-room c).In_ok-starts) in
    omega (arith, less, first, wide)

pub mark_region-requires-clause-few : goal.mark_region-requires-clause-few
mark_region-requires-clause-few c =
    let wide = room (length c.args.window.now * c.args.heap.now.geometry.w) (length c.loop-index.starts.items) (window_few c.args.heap.now c.geometry.ensures.valid c.args.window.now c.requires)
    (c.loop-index.invariant.same ∙ long (goal.at.mark_region-requires-clause-few c).In_ok-starts) in wide.1

pub loop-index-preserved : goal.loop-index-preserved
loop-index-preserved c =
    let h = c.args.heap.now in
    let i : ℕ = c.loop-index.index in
    let r : ℕ = get_or c.args.window.now i 0 in
    let n : ℕ = 64 * length c.loop-index.starts.items in
    let m : ℕ = 64 * length c.mark_region.new.starts.items in
    let width : c.region_words-width.result ≡ h.geometry.w = c.region_words-width.ensures.value ∙ ap (λ g. g.w) c.geometry.ensures.same in
    let long : n ≡ m = ap (λ x. 64 * x) (sym c.mark_region.ensures.same) in
    let told : marks_of n c.mark_region.new.starts.items ≡ and_marked (marks_of n c.loop-index.starts.items) (places_from h (i * h.geometry.w) r) =
    c.mark_region.ensures.marked ∙ ap (λ x. and_marked (marks_of n c.loop-index.starts.items) (places_from h (i * x) r)) width in
    let all : marks_of n c.mark_region.new.starts.items ≡ and_marked (replicate n false) (places_to h c.args.window.now (i + 1)) =
    marked_region h c.args.window.now i r (replicate n false) (marks_of n c.loop-index.starts.items) (marks_of n c.mark_region.new.starts.items) c.loop-index.invariant.marked refl told in
    record {
      marked = subst (λ x. marks_of x c.mark_region.new.starts.items ≡ and_marked (replicate x false) (places_to h c.args.window.now (i + 1))) long all;
      same = c.mark_region.ensures.same ∙ c.loop-index.invariant.same;
    }

pub returns : goal.returns
returns c =
    let n : ℕ = 64 * length c.loop-index.starts.items in
    let last : c.loop-index.index ≡ length c.args.window.now = omega (arith, c.loop-index-test.false, c.loop-index.auto.index-end) in
    let bits = c.loop-index.invariant.same ∙ long (goal.at.returns c).In_ok-starts in
    let wide = room (length c.args.window.now * c.args.heap.now.geometry.w) (length c.loop-index.starts.items) (window_few c.args.heap.now c.geometry.ensures.valid c.args.window.now c.requires) bits in
    record {
      starts = starts_marked c.args.heap.now c.args.window.now c.geometry.ensures.valid c.requires n (marks_of n c.loop-index.starts.items) wide.0
          (c.loop-index.invariant.marked ∙ ap (λ k. and_marked (replicate n false) (places_to c.args.heap.now c.args.window.now k)) last);
      few = no_more (length c.args.window.now * c.args.heap.now.geometry.w) (length c.loop-index.starts.items) bits;
    }

pub loop-index-smaller : goal.loop-index-smaller
loop-index-smaller c = omega (arith, c.loop-index-test.true)
