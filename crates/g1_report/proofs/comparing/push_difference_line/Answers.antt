use Rattle.std.proofs.Common.{◌≡◌, ◌∷◌, ◌++◌, refl, sym, subst, string_bytes}
use Rattle.std.proofs.lemmas.Result.{on_ok_weaker}
use Rattle.g1_same.specs.Ends.{AreEnds}
use Rattle.g1_same.proofs.Following.{end_names}
use Rattle.g1_report.specs.Wording.{roots_line, place_line}
use Rattle.g1_report.specs.Answer.{IsDifferenceLine}
use Rattle.g1_report.specs.Given.{compared}
use Rattle.g1_report.specs.Taken.{Adds}
use Rattle.g1_same.proofs.Held.{before_valid, after_valid}
use Rattle.g1_report.proofs.comparing.push_difference_line.Goals as goal

pub returns-in-Roots : goal.returns-in-Roots
returns-in-Roots c = λ h.
    let s = compared c.args.sides in
    let m = c.in-Roots.before in
    let n = c.in-Roots.after in
    let old = string_bytes c.args.text.now in
    let now = string_bytes c.push_roots_line.new.text in
    on_ok_weaker c.push_roots_line.result
    (λ e. subst (λ d. Adds (IsDifferenceLine s d) old now) (sym c.in-Roots.is) (roots_line m n, refl, e))
    c.push_roots_line.ensures

pub push_how_line-requires-clause-values : goal.push_how_line-requires-clause-values
push_how_line-requires-clause-values c =
    let ends = subst (λ d. AreEnds c.args.sides.heaps.before.now c.args.sides.heaps.after.now d c.ends_of-ends.result) c.in-At.is c.ends_of-ends.ensures in
    ends.1

pub push_how_line-requires-clause-before : goal.push_how_line-requires-clause-before
push_how_line-requires-clause-before c =
    let g = c.args.sides.heaps.before.now in
    let ends = subst (λ d. AreEnds g c.args.sides.heaps.after.now d c.ends_of-ends.result) c.in-At.is c.ends_of-ends.ensures in
    end_names g (before_valid c.args.sides.heaps) (c.in-At.root ∷ c.in-At.slots.items) c.ends_of-ends.result.before ends.0.0

pub push_how_line-requires-clause-after : goal.push_how_line-requires-clause-after
push_how_line-requires-clause-after c =
    let h = c.args.sides.heaps.after.now in
    let ends = subst (λ d. AreEnds c.args.sides.heaps.before.now h d c.ends_of-ends.result) c.in-At.is c.ends_of-ends.ensures in
    end_names h (after_valid c.args.sides.heaps) (c.in-At.root ∷ c.in-At.slots.items) c.ends_of-ends.result.after ends.0.1

pub returns-in-At : goal.returns-in-At
returns-in-At c = λ h.
    let s = compared c.args.sides in
    let ends = subst (λ d. AreEnds c.args.sides.heaps.before.now c.args.sides.heaps.after.now d c.ends_of-ends.result) c.in-At.is c.ends_of-ends.ensures in
    let x = c.ends_of-ends.result.before in
    let y = c.ends_of-ends.result.after in
    let old = string_bytes c.args.text.now in
    let now = string_bytes c.push_how_line.new.text in
    on_ok_weaker c.push_how_line.result
    (λ e. subst (λ d. Adds (IsDifferenceLine s d) old now) (sym c.in-At.is) (
      place_line s c.in-At.root c.in-At.slots.items c.in-At.how x y,
      (x, y, ends.0, refl),
      subst (λ l. now ≡ old ++ place_line s c.in-At.root l c.in-At.how x y) c.as_slice.ensures.value e,
    ))
    (c.push_how_line.ensures h)
