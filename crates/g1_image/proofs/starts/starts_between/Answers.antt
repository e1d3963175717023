use Rattle.std.proofs.Common.{◌≡◌, ◌≤◌, ◌+◌, ◌*◌, ◌^◌, arith, true, false, refl, slice_index, length, sym, ap, subst, ◌∙◌, below_more}
use Rattle.std.proofs.Math.Nat.{mul-le-mul_right}
use Rattle.std.proofs.lemmas.List.{length-replicate}
use Rattle.std.specs.Prelude.{Bool}
use Rattle.std.proofs.lemmas.Result.{err_from_is_err_and}
use Rattle.g1_words.specs.Heap.{region, start}
use Rattle.g1_words.specs.Valid.{IsShaped}
use Rattle.g1_words.specs.declared.object.Object.{Object}
use Rattle.g1_words.specs.declared.region.Kind.TheVariants.{HumongousFirst}
use Rattle.g1_image.specs.Draft.{Latest, ShapedBelow}
use Rattle.g1_image.specs.Marks.{Marks, StartsBetween}
use Rattle.g1_image.proofs.Rows.{Marks-start, Marks-more, start_in}
use Rattle.g1_image.proofs.Runs.{Latest-first, Latest-other}
use Rattle.g1_image.proofs.starts.starts_between.Goals as goal
use Rattle.g1_image.proofs.starts.starts_between.Goals.{then-is_humongous_first, else-is_humongous_first}

pub overflow_sub-start : goal.overflow_sub-start
overflow_sub-start c =
    omega (arith, c.start-base.ensures.value, c.start.ensures.value, mul-le-mul_right c.geometry-geometry.result.w c.requires.order)

pub loop-r-init : goal.loop-r-init
loop-r-init c =
    let h = c.args.draft.now in
    let from = c.args.from in
    let to = c.args.to in
    let base : c.start-base.result ≡ start h from = c.start-base.ensures.value ∙ ap (λ g. from * g.w) c.geometry-geometry.ensures.same in
    let end : c.start.result ≡ start h to = c.start.ensures.value ∙ ap (λ g. to * g.w) c.geometry-geometry.ensures.same in
    record {
      order = c.latest-first.ensures.order;
      shaped = λ shaped. shaped;
      latest = c.latest-first.ensures.latest;
      marks = subst (Marks (λ k. StartsBetween h from from (c.start-base.result + k))) (sym c.in_ok-marks.ensures) (Marks-start h from c.start-base.result _);
      count = omega (arith, base, end, ap length c.in_ok-marks.ensures, length-replicate {A = Bool}, mul-le-mul_right h.geometry.w c.requires.order);
    }

pub mark_region-requires-clause-below : goal.mark_region-requires-clause-below
mark_region-requires-clause-below c =
    let w = c.args.draft.now.geometry.w in
    let base : c.start-base.result ≡ start c.args.draft.now c.args.from = c.start-base.ensures.value ∙ ap (λ g. c.args.from * g.w) c.geometry-geometry.ensures.same in
    let order : c.args.from ≤ c.loop-r.r = omega (arith, c.loop-r.auto.r) in
    omega (arith, base, mul-le-mul_right w order)

pub mark_region-requires-clause-above : goal.mark_region-requires-clause-above
mark_region-requires-clause-above c =
    let within : c.loop-r.r + 1 ≤ c.args.to = omega (arith, c.loop-r-test.true) in
    omega (arith, c.loop-r.invariant.count, mul-le-mul_right c.args.draft.now.geometry.w within)

pub header-size-requires : goal.header-size-requires
header-size-requires c =
    let h = c.args.draft.now in
    let r = c.loop-r.r in
    let place : c.start-then-is_humongous_first.result ≡ start h r = c.start-then-is_humongous_first.ensures.value ∙ ap (λ g. r * g.w) c.geometry-geometry.ensures.same in
    omega (
      arith,
      place,
      start_in h r c.geometry-geometry.ensures.draft.limits.w_least (omega (arith, c.loop-r-test.true, c.requires.regions)),
      c.words.ensures.draft.word_count,
      ap length c.words.ensures.same,
    )

pub returns-clause-ok : goal.returns-clause-ok
returns-clause-ok c =
    let h = c.args.draft.now in
    let from = c.args.from in
    let marks = c.loop-r.marks in
    let base : c.start-base.result ≡ start h from = c.start-base.ensures.value ∙ ap (λ g. from * g.w) c.geometry-geometry.ensures.same in
    let last : c.loop-r.r ≡ c.args.to = omega (arith, c.loop-r-test.false, c.loop-r.auto.r-end c.requires.order) in (
      record {
        each = subst (λ x. Marks (λ k. StartsBetween h from x (start h from + k)) marks) last
            (subst (λ b. Marks (λ k. StartsBetween h from c.loop-r.r (b + k)) marks) base c.loop-r.invariant.marks);
        count = omega (arith, base, c.loop-r.invariant.count);
      },
      λ shaped. subst (ShapedBelow h) last (c.loop-r.invariant.shaped shaped),
    )

pub returns-then-not-mark_region-clause-ok : goal.returns-then-not-mark_region-clause-ok
returns-then-not-mark_region-clause-ok c = λ shaped. record {
  within = omega (arith, c.loop-r-test.true, c.requires.regions);
  breach = λ s. let e : false ≡ true = (c.if-not-mark_region.ensures.shaped (c.loop-r.invariant.shaped shaped)).1 s in cc;
  before = c.loop-r.invariant.shaped shaped;
}

pub loop-r-preserved : goal.loop-r-preserved
loop-r-preserved c =
    let h = c.args.draft.now in
    let r = c.loop-r.r in
    let good : ShapedBelow h c.args.from → IsShaped h r = λ shaped. (c.if-not-mark_region.ensures.shaped (c.loop-r.invariant.shaped shaped)).0 refl in
    record {
      order = elim c.if-is_humongous_first.branch [
        | then-is_humongous_first w ↦ omega (arith, w.first-is)
        | else-is_humongous_first w ↦ omega (arith, w.first-is, c.loop-r.invariant.order)
      ];
      shaped = λ shaped. below_more _ _ (c.loop-r.invariant.shaped shaped) (good shaped);
      latest = λ shaped. elim c.if-is_humongous_first.branch [
        | then-is_humongous_first w ↦
            let q : Object = w.header-size.result in
            let place : w.start-then-is_humongous_first.result ≡ start h r = w.start-then-is_humongous_first.ensures.value ∙ ap (λ g. r * g.w) c.geometry-geometry.ensures.same in
            let kind : (region h r).kind ≡ HumongousFirst = sym (ap (λ q. q.kind) c.region.ensures) ∙ c.is_humongous_first.ensures.0 w.if-is_humongous_first.true in
            let word : slice_index h.words (start h r) ≡ q.size * 2 ^ 32 + q.refs = sym (λ t. slice_index (w.words.ensures.same t) (place t)) ∙ w.header-size.ensures.word in
            let l : Latest h (r + 1) r q.size = Latest-first h r q (w.header-size.ensures.at ∙ place) word w.header-size.ensures.refs w.header-size.ensures.size (good shaped) kind in
            subst (λ x. Latest h (r + 1) x c.if-is_humongous_first.size) (sym w.first-is) (subst (λ x. Latest h (r + 1) r x) (sym w.size-is) l)
        | else-is_humongous_first w ↦
            let l : Latest h (r + 1) c.loop-r.first c.loop-r.size = Latest-other h r c.loop-r.first c.loop-r.size (c.loop-r.invariant.latest shaped)
            (λ k. let e : false ≡ true = sym w.if-is_humongous_first.false ∙ c.is_humongous_first.ensures.1 (ap (λ q. q.kind) c.region.ensures ∙ k) in cc) in
            subst (λ x. Latest h (r + 1) x c.if-is_humongous_first.size) (sym w.first-is) (subst (λ x. Latest h (r + 1) c.loop-r.first x) (sym w.size-is) l)
      ];
      marks = Marks-more h c.args.from r c.start-base.result c.loop-r.marks c.mark_region.new.marks (omega (arith, c.loop-r.auto.r)) c.loop-r.invariant.marks (c.if-not-mark_region.ensures.marked refl);
      count = omega (arith, c.loop-r.invariant.count, c.mark_region.ensures.size);
    }

pub loop-r-smaller : goal.loop-r-smaller
loop-r-smaller c = omega (arith, c.loop-r-test.true)

pub mark_region-requires-clause-there : goal.mark_region-requires-clause-there
mark_region-requires-clause-there c = omega (arith, c.loop-r-test.true, c.requires.regions)

pub region-requires : goal.region-requires
region-requires c = omega (arith, c.loop-r-test.true, c.requires.regions)

pub returns-in_err-marks-clause-memory : goal.returns-in_err-marks-clause-memory
returns-in_err-marks-clause-memory c =
    let left = err_from_is_err_and c.from_residual.result c.from_residual.ensures.1 in
    rw (left.1, left.2) refl
