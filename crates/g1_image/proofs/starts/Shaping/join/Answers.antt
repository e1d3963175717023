use Rattle.std.proofs.Common.{◌≡◌, ◌≤◌, ◌+◌, ◌*◌, inl, inr, arith, refl, slice_index, sym, ap, subst, length, ◌∙◌}
use Rattle.std.specs.Prelude.{Ok, Err}
use Rattle.std.proofs.lemmas.Result.{err_from_is_err_and}
use Rattle.std.proofs.Math.Nat.{mul-le-mul_right}
use Rattle.g1_words.specs.Geometry.{most_words}
use Rattle.g1_image.specs.Draft.{ShapedBelow}
use Rattle.g1_image.specs.Marks.{StartsOf}
use Rattle.g1_image.specs.Shapes.{IsShapedRange}
use Rattle.g1_image.proofs.Rows.{StartsOf-all}
use Rattle.g1_image.proofs.ShapedRanges.{StartsOf-none, StartsOf-append, part_at}
use Rattle.g1_image.proofs.starts.Shaping.join.Goals as goal
use Rattle.g1_image.proofs.starts.Shaping.join.Goals.{In-Ok, In-Err}

-- the answer for the range that is joined
marked : (c : In-Ok) → IsShapedRange c.args.self.now.draft.now c.args.self.now.begins.now c.loop-part.part-index (Ok c.in-Ok.behind)
marked c =
    let h = c.args.self.now.draft.now in
    let begins = c.args.self.now.begins.now in
    subst (IsShapedRange h begins c.loop-part.part-index) (sym c.part-item.is ∙ c.in-Ok.is)
    (part_at h begins c.args.parts.now c.loop-part.part-index c.part-item.result c.requires.parts c.loop-part-test.true)

broken : (c : In-Err) → IsShapedRange c.args.self.now.draft.now c.args.self.now.begins.now c.loop-part.part-index (Err c.in-Err.r)
broken c =
    let h = c.args.self.now.draft.now in
    let begins = c.args.self.now.begins.now in
    subst (IsShapedRange h begins c.loop-part.part-index) (sym c.part-item.is ∙ c.in-Err.is)
    (part_at h begins c.args.parts.now c.loop-part.part-index c.part-item.result c.requires.parts c.loop-part-test.true)

pub append-requires-clause-room : goal.append-requires-clause-room
append-requires-clause-room c =
    let h = c.args.self.now.draft.now in
    let range = c.requires.cut.cut.each c.loop-part.part-index c.loop-part-test.true in
    let most : h.geometry.n * h.geometry.w ≤ most_words = omega (arith, c.geometry.ensures.draft.limits.words_most) in
    omega (arith, c.loop-part.invariant.starts.count, (marked (goal.at.append-requires-clause-room c).In-Ok).0.count, mul-le-mul_right h.geometry.w range.within, most)

pub returns-in-Err-clause-err : goal.returns-in-Err-clause-err
returns-in-Err-clause-err c = inr (c.in-Err.r, refl, broken (goal.at.returns-in-Err-clause-err c).In-Err c.loop-part.invariant.shaped)

pub loop-part-preserved : goal.loop-part-preserved
loop-part-preserved c =
    let h = c.args.self.now.draft.now in
    let begins = c.args.self.now.begins.now in
    let i = c.loop-part.part-index in
    let part = marked (goal.at.loop-part-preserved c).In-Ok in
    let range = c.requires.cut.cut.each i c.loop-part-test.true in
    record {
      starts = subst (StartsOf h 0 (slice_index begins (i + 1))) (sym c.in_ok-append-in-Ok.ensures.ok)
          (StartsOf-append h 0 (slice_index begins i) (slice_index begins (i + 1)) c.loop-part.marks c.in-Ok.behind (omega arith) range.order c.loop-part.invariant.starts part.0);
      shaped = part.1 c.loop-part.invariant.shaped;
    }

pub returns : goal.returns
returns c =
    let h = c.args.self.now.draft.now in
    let begins = c.args.self.now.begins.now in
    let last : c.loop-part.part-index ≡ length c.args.parts.now = omega (arith, c.loop-part-test.false, c.loop-part.auto.part-index-end) in
    let all : slice_index begins c.loop-part.part-index ≡ h.geometry.n = ap (slice_index begins) last ∙ c.requires.cut.cut.last in
    let shaped : ShapedBelow h h.geometry.n = subst (ShapedBelow h) all c.loop-part.invariant.shaped in
    record { ok = record { starts = StartsOf-all h c.loop-part.marks shaped (subst (λ x. StartsOf h 0 x c.loop-part.marks) all c.loop-part.invariant.starts); shaped = shaped }; err = tt }

pub loop-part-init : goal.loop-part-init
loop-part-init c =
    let h = c.args.self.now.draft.now in
    let first : slice_index c.args.self.now.begins.now 0 ≡ 0 = c.requires.cut.cut.first in
    record {
      starts = subst (λ x. StartsOf h 0 x c.in_ok-marks.marks) (sym first) (subst (StartsOf h 0 0) (sym c.in_ok-marks.ensures) (StartsOf-none h 0));
      shaped = λ q lt. absurd (omega (arith, first, lt));
    }

pub loop-part-smaller : goal.loop-part-smaller
loop-part-smaller c = omega (arith, c.loop-part-test.true)

pub returns-in_err-marks-clause-err : goal.returns-in_err-marks-clause-err
returns-in_err-marks-clause-err c =
    let left = err_from_is_err_and c.from_residual.result c.from_residual.ensures.1 in
    rw (left.1, left.2) (inl refl)

pub returns-in_err-append-in-Ok-clause-err : goal.returns-in_err-append-in-Ok-clause-err
returns-in_err-append-in-Ok-clause-err c =
    let left = err_from_is_err_and c.from_residual-in_err-append-in-Ok.result c.from_residual-in_err-append-in-Ok.ensures.1 in
    rw (left.1, left.2) (inl refl)
