use Rattle.std.proofs.Common.{arith, ap, ◌≡◌, ◌<◌, ◌≤◌, ◌+◌, ◌-◌, ◌*◌, ◌∙◌, refl, sym, ℕ, Bool, List, set, true, length}
use Rattle.g1_words.specs.Heap.{start}
use Rattle.g1_words.specs.Marks.{marks_of}
use Rattle.g1_frontier.proofs.Begins.{marking_start, marking_end, marking_fits, marking_within, marking_some, marking_step}
use Rattle.g1_frontier.proofs.numbers.mark_region.Goals as goal
use Rattle.g1_frontier.proofs.numbers.mark_region.Goals.{In-objects}

-- where the region starts, as it was read
from_read : (c : In-objects) → c.start-from.result ≡ start c.args.heap.now c.args.region
from_read c = c.start-from.ensures.value ∙ ap (λ g. c.args.region * g.w) c.geometry.ensures.same

-- the object begins in the region
within : (c : In-objects) → (start c.args.heap.now c.args.region ≤ c.objects.at) × (c.objects.at < start c.args.heap.now c.args.region + c.args.heap.now.geometry.w)
within c =
    marking_within c.args.heap.now c.args.region c.args.first c.objects.at c.objects_end-end.result
    (marks_of (64 * length c.args.starts.now.items) c.args.starts.now.items) (marks_of (64 * length c.args.starts.now.items) c.objects.starts.items)
    c.geometry.ensures.valid c.requires.region c.objects.invariant.marked c.objects-test.true

pub objects-init : goal.objects-init
objects-init c = record {
  marked =
      marking_start c.args.heap.now c.args.region c.args.first c.start-from.result c.objects_end-end.result (marks_of (64 * length c.args.starts.now.items) c.args.starts.now.items)
      (c.start-from.ensures.value ∙ ap (λ g. c.args.region * g.w) c.geometry.ensures.same) c.objects_end-end.ensures;
  same = refl;
}

pub overflow_sub-at : goal.overflow_sub-at
overflow_sub-at c = let b = (goal.at.overflow_sub-at c).In-objects in omega (arith, within b, from_read b)

pub overflow_add-first : goal.overflow_add-first
overflow_add-first c = let b = (goal.at.overflow_add-first c).In-objects in omega (arith, within b, from_read b, c.requires.room, c.requires.few)

pub mark-requires : goal.mark-requires
mark-requires c = let b = (goal.at.mark-requires c).In-objects in omega (arith, within b, from_read b, c.requires.room, c.objects.invariant.same)

pub size_at-at-requires : goal.size_at-at-requires
size_at-at-requires c =
    marking_fits c.args.heap.now c.args.region c.args.first c.objects.at c.objects_end-end.result
    (marks_of (64 * length c.args.starts.now.items) c.args.starts.now.items) (marks_of (64 * length c.args.starts.now.items) c.objects.starts.items)
    c.geometry.ensures.valid c.requires.region c.objects.invariant.marked c.objects-test.true

pub objects-smaller : goal.objects-smaller
objects-smaller c =
    let some = marking_some c.args.heap.now c.args.region c.args.first c.objects.at c.objects_end-end.result
    (marks_of (64 * length c.args.starts.now.items) c.args.starts.now.items) (marks_of (64 * length c.args.starts.now.items) c.objects.starts.items)
    c.geometry.ensures.valid c.requires.region c.objects.invariant.marked c.objects-test.true c.size_at-at.result c.size_at-at.ensures in
    omega (arith, some, c.objects-test.true)

pub objects-preserved : goal.objects-preserved
objects-preserved c =
    let h = c.args.heap.now in
    let n : ℕ = 64 * length c.args.starts.now.items in
    let old : List Bool = marks_of n c.args.starts.now.items in
    let mid : List Bool = marks_of n c.objects.starts.items in
    let spot : ℕ = c.args.first + (c.objects.at - start h c.args.region) in
    let long : 64 * length c.objects.starts.items ≡ n = ap (λ x. 64 * x) c.objects.invariant.same in
    let there : c.args.first + (c.objects.at - c.start-from.result) ≡ spot = ap (λ x. c.args.first + (c.objects.at - x)) (from_read (goal.at.objects-preserved c).In-objects) in
    let set_there : marks_of n c.mark.new.bits.items ≡ set mid spot true =
    ap (λ x. marks_of x c.mark.new.bits.items) (sym long) ∙ c.mark.ensures.marked ∙ ap (λ x. set (marks_of x c.objects.starts.items) (c.args.first + (c.objects.at - c.start-from.result)) true) long
    ∙ ap (λ p. set mid p true) there in record {
      marked =
          marking_step h c.args.region c.args.first c.objects.at c.objects_end-end.result old mid c.geometry.ensures.valid c.requires.region c.objects.invariant.marked c.objects-test.true
          (marks_of n c.mark.new.bits.items) c.size_at-at.result c.size_at-at.ensures set_there;
      same = c.mark.ensures.same ∙ c.objects.invariant.same;
    }

pub returns-clause-marked : goal.returns-clause-marked
returns-clause-marked c =
    marking_end c.args.heap.now c.args.region c.args.first c.objects.at c.objects_end-end.result
    (marks_of (64 * length c.args.starts.now.items) c.args.starts.now.items) (marks_of (64 * length c.args.starts.now.items) c.objects.starts.items)
    c.objects.invariant.marked (omega (arith, c.objects-test.false))
