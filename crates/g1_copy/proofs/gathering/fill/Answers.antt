use Rattle.std.proofs.Common.{◌≡◌, ◌≤◌, ◌+◌, ◌-◌, Contains, get_or, length, arith, ap, sym, subst, ◌∙◌}
use Rattle.g1_words.specs.Heap.{object_at, start}
use Rattle.g1_words.specs.Layout.{forward}
use Rattle.g1_words.specs.Copy.{renamed_words}
use Rattle.g1_after.proofs.CopyWords.{length-renamed_words}
use Rattle.g1_copy.proofs.GatheringRuns.{Filling-all, Filling-more, Filling-start, IsInRun, in_run}
use Rattle.g1_copy.proofs.gathering.fill.Goals as goal
use Rattle.g1_copy.proofs.gathering.fill.Goals.{After-places, In-loop-i}

-- the survivor is one of the run
lies : (c : In-loop-i) → IsInRun c.args.moving.now.heap c.args.moving.now.plan c.args.run c.loop-i.i
lies c = in_run c.args.moving.now.heap c.args.moving.now.plan c.geometry.ensures.valid c.geometry.ensures.made c.args.run c.requires.run c.loop-i.i c.loop-i.auto.i c.loop-i-test.true

-- it has room in the region
within : (c : After-places) → IsInRun c.args.moving.now.heap c.args.moving.now.plan c.args.run c.loop-i.i → (c.start-start.result ≤ get_or c.places.result.now c.loop-i.i 0)
    × (get_or c.places.result.now c.loop-i.i 0 + c.object-object.result.size ≤ c.start-start.result + c.args.moving.now.heap.geometry.w)
within c s =
    let base : c.start-start.result ≡ start c.args.moving.now.heap c.args.run.region = cc in
    let read = ap (λ xs. get_or xs c.loop-i.i 0) c.places.ensures in
    (omega (arith, s.low, base, read), omega (arith, s.high, base, read, ap (λ o. o.size) c.object-object.ensures.object))

pub loop-i-init : goal.loop-i-init
loop-i-init c = record {
  filling = Filling-start c.args.moving.now.heap c.args.moving.now.plan.survivors c.args.run.region c.args.run.from c.args.words.now c.requires.empty;
  ahead = c.new-ahead.ensures c.args.moving.now.heap c.args.moving.now.plan.survivors;
}

pub object-object-requires-clause-index : goal.object-object-requires-clause-index
object-object-requires-clause-index c = (lies (goal.at.object-object-requires-clause-index c).In-loop-i).index

pub overflow_sub-from : goal.overflow_sub-from
overflow_sub-from c =
    let at = goal.at.overflow_sub-from c in
    (within at.After-places (lies at.In-loop-i)).0

pub overflow_add-from : goal.overflow_add-from
overflow_add-from c =
    let at = goal.at.overflow_add-from c in
    let k = within at.After-places (lies at.In-loop-i) in
    omega (arith, k.0, k.1, c.geometry.ensures.valid.limits.w_most)

pub offset_bounds-words-from : goal.offset_bounds-words-from
offset_bounds-words-from c =
    let at = goal.at.offset_bounds-words-from c in
    let k = within at.After-places (lies at.In-loop-i) in
    omega (arith, k.0, k.1, c.geometry.ensures.valid.limits.w_most)

pub slice_bounds-copy-end : goal.slice_bounds-copy-end
slice_bounds-copy-end c =
    let at = goal.at.slice_bounds-copy-end c in
    let k = within at.After-places (lies at.In-loop-i) in
    omega (arith, k.0, k.1, c.loop-i.invariant.filling.count)

pub copy-requires-clause-survivor : goal.copy-requires-clause-survivor
copy-requires-clause-survivor c =
    let at : c.object-object.result.at ≡ get_or c.args.moving.now.plan.survivors c.loop-i.i 0 = ap (λ o. o.at) c.object-object.ensures.object in
    subst (Contains c.args.moving.now.plan.survivors) (sym at) (lies (goal.at.copy-requires-clause-survivor c).In-loop-i).survivor

pub loop-i-preserved : goal.loop-i-preserved
loop-i-preserved c =
    let h = c.args.moving.now.heap in
    let p = c.args.moving.now.plan in
    let i = c.loop-i.i in
    let object = c.object-object.result in
    let from = get_or c.places.result.now i 0 - c.start-start.result in
    let at = goal.at.loop-i-preserved c in
    let is : object ≡ object_at h (get_or p.survivors i 0) = c.object-object.ensures.object in
    let base : c.start-start.result ≡ start h c.args.run.region = cc in
    let place : from ≡ get_or p.places i 0 - start h c.args.run.region = λ k. get_or (c.places.ensures k) i 0 - base k in
    let size : from + object.size - from ≡ (object_at h (get_or p.survivors i 0)).size = omega (arith, ap (λ o. o.size) is) in
    let whole : c.copy.new.copy ≡ renamed_words (forward h p.survivors) h (object_at h (get_or p.survivors i 0)) = c.copy.ensures ∙ ap (renamed_words (forward h p.survivors) h) is in
    let count = length-renamed_words (forward h p.survivors) h (object_at h (get_or p.survivors i 0)) (lies at.In-loop-i).object.refs_fit in
    record {
      filling = Filling-more h p c.geometry.ensures.valid c.geometry.ensures.made c.args.run c.requires.run i from
          (from + object.size - from) c.loop-i.words c.copy.new.copy (omega arith) (omega arith) c.loop-i.invariant.filling place size
          (ap length whole ∙ count ∙ sym size) whole;
      ahead = c.object-object.ensures.ahead;
    }

pub returns : goal.returns
returns c =
    Filling-all c.args.moving.now.heap c.args.moving.now.plan c.geometry.ensures.valid c.geometry.ensures.made c.args.run c.requires.run c.loop-i.i c.loop-i.words
    (omega arith) c.loop-i.invariant.filling

pub loop-i-smaller : goal.loop-i-smaller
loop-i-smaller c = omega (arith, c.loop-i-test.true)
