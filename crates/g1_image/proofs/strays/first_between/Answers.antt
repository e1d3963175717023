use Rattle.std.proofs.Common.{arith, ◌≡◌, ◌≤◌, ◌<◌, ◌+◌, ◌*◌, ◌^◌, ℕ, List, length, slice_index, sym, ap, subst, ◌∙◌, false, true}
use Rattle.g1_words.specs.Heap.{Heap}
use Rattle.g1_words.specs.Valid.{IsReference}
use Rattle.g1_words.specs.declared.object.Object.{Object}
use Rattle.g1_image.specs.Marks.{StartsAt}
use Rattle.g1_image.proofs.Slots.{SlotsBetween-none, SlotsBetween-object, object_fits, slot_breach}
use Rattle.g1_image.proofs.strays.first_between.Goals as goal
use Rattle.g1_image.proofs.strays.first_between.Goals.{After-header-o}

-- a slot of the object that was read is the heap's
slot_is : (ws words : List ℕ) (q : Object) (at i : ℕ) → ws ≡ words → q.at ≡ at → slice_index ws (q.at + 1 + i) ≡ slice_index words (at + 1 + i)
slot_is ws words q at i e here = λ t. slice_index (e t) (here t + 1 + i)

-- what is known of an object whose header was read at a mark
record IsRead (h : Heap) (ws : List ℕ) (at : ℕ) (q : Object) : Type 0 where
  some : 0 < h.geometry.w
  start : StartsAt h at
  word : slice_index h.words at ≡ q.size * 2 ^ 32 + q.refs
  refs : q.refs < q.size
  object_end : q.at + q.size ≤ length ws

read : (c : After-header-o) → IsRead c.args.draft.now c.words-words.result.now.items c.loop-at.at c.header-o.result
read c =
    let h = c.args.draft.now in
    let at = c.loop-at.at in
    let q = c.header-o.result in
    let some : 0 < h.geometry.w = omega (arith, c.words-words.ensures.draft.limits.w_least) in
    let start : StartsAt h at = c.requires.marked.starts.each.sound at (sym c.is_set.ensures ∙ c.if-is_set.true) in
    let word : slice_index h.words at ≡ q.size * 2 ^ 32 + q.refs = ap (λ ws. slice_index ws at) (sym c.words-words.ensures.same) ∙ c.header-o.ensures.word in
    let fits = object_fits h at q some c.requires.marked.shaped start word c.header-o.ensures.refs c.header-o.ensures.size in
    record {
      some = some;
      start = start;
      word = word;
      refs = fits.0;
      object_end = omega
          (arith, c.header-o.ensures.at, fits.0, fits.1, c.words-words.ensures.draft.word_count, ap length c.words-words.ensures.same);
    }

pub first_stray-requires-clause-small : goal.first_stray-requires-clause-small
first_stray-requires-clause-small c =
    let r = read (goal.at.first_stray-requires-clause-small c).After-header-o in
    omega (arith, r.refs, r.object_end, c.words-words.ensures.draft.limits.words_most, c.words-words.ensures.draft.word_count, ap length c.words-words.ensures.same)

pub returns-in-Some : goal.returns-in-Some
returns-in-Some c =
    let h = c.args.draft.now in
    let ws = c.words-words.result.now.items in
    let at = c.loop-at.at in
    let q = c.header-o.result in
    let i = c.in-Some.i in
    let r = read (goal.at.returns-in-Some c).After-header-o in
    let first = c.in-Some.ensures.found in
    let lt : i < q.refs = first.within in
    slot_breach h at q r.some c.requires.marked.shaped r.start r.word c.header-o.ensures.refs c.header-o.ensures.size c.args.from c.loop-at.invariant.1 c.loop-at.invariant.0 i lt
    (λ r. first.breach (subst (λ x. IsReference h x) (sym (slot_is ws h.words q at i c.words-words.ensures.same c.header-o.ensures.at)) r))
    (λ k less. subst (λ x. IsReference h x) (slot_is ws h.words q at k c.words-words.ensures.same
    c.header-o.ensures.at) (first.before k less))

pub loop-at-smaller-then-is_set : goal.loop-at-smaller-then-is_set
loop-at-smaller-then-is_set c = omega (arith, (read (goal.at.loop-at-smaller-then-is_set c).After-header-o).refs, c.loop-at-test.true)

pub loop-at-preserved-then-is_set : goal.loop-at-preserved-then-is_set
loop-at-preserved-then-is_set c =
    let h = c.args.draft.now in
    let ws = c.words-words.result.now.items in
    let at = c.loop-at.at in
    let q = c.header-o.result in
    let r = read (goal.at.loop-at-preserved-then-is_set c).After-header-o in (
      SlotsBetween-object h at q r.some c.requires.marked.shaped r.start r.word c.header-o.ensures.refs c.header-o.ensures.size c.args.from c.loop-at.invariant.0
          (λ i lt. subst (λ x. IsReference h x) (slot_is ws h.words q at i c.words-words.ensures.same
          c.header-o.ensures.at) (c.in_default.ensures.none i lt)),
      omega (arith, c.loop-at.invariant.1),
    )

pub loop-at-preserved : goal.loop-at-preserved
loop-at-preserved c =
    let none : StartsAt c.args.draft.now c.loop-at.at → ⊥ = λ s. let e : false ≡ true = sym c.if-is_set.false ∙ c.is_set.ensures ∙ c.requires.marked.starts.each.whole c.loop-at.at s in cc in
    (SlotsBetween-none c.args.draft.now c.args.from c.loop-at.at c.loop-at.invariant.0 none, omega (arith, c.loop-at.invariant.1))

pub returns : goal.returns
returns c = λ o p has from_on lt. c.loop-at.invariant.0 o p has from_on (omega (arith, lt, c.loop-at-test.false))

pub loop-at-smaller : goal.loop-at-smaller
loop-at-smaller c = omega (arith, c.loop-at-test.true)
