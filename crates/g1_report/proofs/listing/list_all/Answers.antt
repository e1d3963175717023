use Rattle.std.proofs.Common.{◌≡◌, ◌<◌, ◌+◌, ◌-◌, ◌^◌, ◌++◌, ◌∙◌, min, set, slice_index, sym, subst, ap}
use Rattle.g1_same.specs.Behind.{ShowsAt, IsThere, IsNext}
use Rattle.g1_report.specs.Listed.{counts_line, kind_of, IsShown}
use Rattle.g1_report.specs.Given.{compared}
use Rattle.g1_report.proofs.Taken.{taken_first, taken_on, taken_more, taken_part, taken_behind}
use Rattle.g1_report.proofs.Behind.{takes_text, takes_on, takes_no_end, takes_end}
use Rattle.g1_report.proofs.Counting.{counted, counted_none, counted_more, kind_small, shown}
use Rattle.g1_report.proofs.Passed.{of_heaps}
use Rattle.g1_words.proofs.Logic.{some_then}
use Rattle.g1_report.proofs.listing.list_all.Goals as goal

pub returns-then-not-branch-2-clause-first : goal.returns-then-not-branch-2-clause-first
returns-then-not-branch-2-clause-first g c =
    taken_on (g.L.Lines.taken c.args.out.now) (g.L.Lines.taken c.differences.out) (g.L.Lines.taken c.take_found.new.out) c.args.first.now
    c.differences.invariant.took c.in_ok-take_found.ensures.taken

pub differences-init : goal.differences-init
differences-init g c =
    let old = g.L.Lines.taken c.args.out.now in
    let new = g.L.Lines.taken c.take.new.self in
    record {
      underway = c.in_ok-walk.ensures.underway;
      before = c.in_ok-walk.ensures.heaps.0;
      after = c.in_ok-walk.ensures.heaps.1;
      lines = λ h. takes_text (compared c.args.sides) old new c.args.first.now c.in_ok-take.ensures.ok;
      counted = counted_none (compared c.args.sides) c.in_ok-walk.walk.way.from c.in_ok-walk.walk.way.number c.first_counts-counts.result c.first_counts-counts.ensures;
      took = taken_first old new c.args.first.now c.in_ok-take.ensures.ok;
    }

pub differences-preserved : goal.differences-preserved
differences-preserved g c = record {
  underway = c.in_ok-found.ensures.underway;
  before = c.in_ok-found.ensures.heaps.0 ∙ c.differences.invariant.before;
  after = c.in_ok-found.ensures.heaps.1 ∙ c.differences.invariant.after;
  took = taken_on (g.L.Lines.taken c.args.out.now) (g.L.Lines.taken c.differences.out) (g.L.Lines.taken c.take_found.new.out) c.args.first.now
      c.differences.invariant.took c.in_ok-take_found.ensures.taken;
  lines = λ h. takes_on (compared c.args.sides) (g.L.Lines.taken c.args.out.now) (g.L.Lines.taken c.differences.out) (g.L.Lines.taken c.take_found.new.out) c.args.first.now
      (c.differences.invariant.lines h) (c.in_ok-take_found.ensures.line h);
  counted =
      let s = compared c.args.sides in
      let f = c.in-Some.found in
      let now = c.next.new.self in
      let was = c.differences.walk in
      let said = c.in_ok-found.ensures in
      let there = some_then (λ f. IsThere now.before.now now.after.now now.walk f) c.in_ok-found.field-0 f c.in-Some.is said.there in
      let next = some_then (λ f. IsNext was.before.now was.after.now now.walk was.way.from was.way.number f) c.in_ok-found.field-0 f c.in-Some.is said.next in
      let on = some_then (λ f. (now.way.from ≡ f.place.way.from) × (now.way.number ≡ f.place.way.number + 1)) c.in_ok-found.field-0 f c.in-Some.is said.on in
      let path = shown now.before.now now.after.now now.walk f said.underway.walk there in
      let is_shown : IsShown s f = (
        path.0,
        of_heaps (λ x y. ShowsAt x y path.0 f) now.before.now c.args.sides.heaps.before.now now.after.now c.args.sides.heaps.after.now (said.heaps.0 ∙ c.differences.invariant.before)
            (said.heaps.1 ∙ c.differences.invariant.after) path.1,
      ) in
      let old = c.differences.counts in
      let new = c.add_one.new.counts in
      let adds : new ≡ set old (kind_of f.what) (min (slice_index old (kind_of f.what) + 1) (2 ^ 64 - 1)) =
      subst (λ k. new ≡ set old k (min (slice_index old k + 1) (2 ^ 64 - 1))) c.kind_of.ensures (c.add_one.ensures (subst (λ k. k < 8) (sym c.kind_of.ensures) (kind_small f.what))) in
      counted_more s was.way.from was.way.number now.way.from now.way.number old new f c.differences.invariant.counted is_shown next.0 adds on.0 on.1;
}

pub returns-clause-first : goal.returns-clause-first
returns-clause-first g c =
    taken_more (g.L.Lines.taken c.args.out.now) (g.L.Lines.taken c.differences.out) (g.L.Lines.taken c.take-2.new.self) c.args.first.now c.as_str.result.now
    c.differences.invariant.took c.in_ok-take-2.ensures.ok

pub returns-then-not-branch-2-clause-all : goal.returns-then-not-branch-2-clause-all
returns-then-not-branch-2-clause-all g c = λ h.
    let s = compared c.args.sides in
    takes_no_end s (g.L.Lines.taken c.args.out.now) (g.L.Lines.taken c.take_found.new.out) c.args.first.now
    (takes_on s (g.L.Lines.taken c.args.out.now) (g.L.Lines.taken c.differences.out) (g.L.Lines.taken c.take_found.new.out) c.args.first.now
    (c.differences.invariant.lines h) (c.in_ok-take_found.ensures.line h))

pub returns-then-not-branch-clause-all : goal.returns-then-not-branch-clause-all
returns-then-not-branch-clause-all g c = λ h.
    let s = compared c.args.sides in
    let old = g.L.Lines.taken c.args.out.now in
    let new = g.L.Lines.taken c.take.new.self in
    takes_no_end s old new c.args.first.now (takes_text s old new c.args.first.now c.in_ok-take.ensures.ok)

pub returns-clause-all : goal.returns-clause-all
returns-clause-all g c = λ h.
    let counts = c.differences.counts in
    let is = c.as_str.ensures.value ∙ (c.in_ok-push_counts.ensures ∙ ap (λ xs. xs ++ counts_line counts) c.clear.ensures.bytes) in
    takes_end (compared c.args.sides) (g.L.Lines.taken c.args.out.now) (g.L.Lines.taken c.differences.out) (g.L.Lines.taken c.take-2.new.self) c.args.first.now c.as_str.result.now counts
    (c.differences.invariant.lines h) (counted (compared c.args.sides) _ _ counts c.differences.invariant.counted) is c.in_ok-take-2.ensures.ok

pub returns-in_err-take_found-clause-grown : goal.returns-in_err-take_found-clause-grown
returns-in_err-take_found-clause-grown g c =
    let old = g.L.Lines.taken c.args.out.now in
    let new = g.L.Lines.taken c.take_found.new.out in
    taken_behind old new c.args.first.now (taken_on old (g.L.Lines.taken c.differences.out) new c.args.first.now c.differences.invariant.took c.in_err-take_found.ensures.taken)

pub returns-then-not-branch-2-clause-grown : goal.returns-then-not-branch-2-clause-grown
returns-then-not-branch-2-clause-grown g c =
    let old = g.L.Lines.taken c.args.out.now in
    let new = g.L.Lines.taken c.take_found.new.out in
    taken_behind old new c.args.first.now (taken_on old (g.L.Lines.taken c.differences.out) new c.args.first.now c.differences.invariant.took c.in_ok-take_found.ensures.taken)

pub returns-in_err-push_counts-clause-grown : goal.returns-in_err-push_counts-clause-grown
returns-in_err-push_counts-clause-grown g c =
    taken_behind (g.L.Lines.taken c.args.out.now) (g.L.Lines.taken c.differences.out) c.args.first.now c.differences.invariant.took

pub returns-in_err-take-2-clause-grown : goal.returns-in_err-take-2-clause-grown
returns-in_err-take-2-clause-grown g c =
    let old = g.L.Lines.taken c.args.out.now in
    let now = g.L.Lines.taken c.differences.out in
    let new = g.L.Lines.taken c.take-2.new.self in
    taken_behind old new c.args.first.now (taken_on old now new c.args.first.now c.differences.invariant.took (taken_part now new c.as_str.result.now c.in_err-take-2.ensures.err))

pub returns-clause-grown : goal.returns-clause-grown
returns-clause-grown g c =
    let old = g.L.Lines.taken c.args.out.now in
    let new = g.L.Lines.taken c.take-2.new.self in
    taken_behind old new c.args.first.now
    (taken_more old (g.L.Lines.taken c.differences.out) new c.args.first.now c.as_str.result.now c.differences.invariant.took c.in_ok-take-2.ensures.ok)
