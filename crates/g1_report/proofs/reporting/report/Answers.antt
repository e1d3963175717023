use Rattle.std.proofs.Common.{sym, subst, string_bytes}
use Rattle.g1_report.specs.Finding.{IsRefusal, IsFinding, IsVerdict}
use Rattle.g1_report.specs.Answer.{AreNamesInOrder, IsAnswer}
use Rattle.g1_report.specs.Listed.{HandedOn, lists}
use Rattle.g1_report.proofs.Passed.{passed_on, of_heaps}
use Rattle.g1_report.proofs.SameTexts.{status_by_name}
use Rattle.g1_report.proofs.reporting.report.Goals as goal

pub returns-in_err-finding-clause-refused : goal.returns-in_err-finding-clause-refused
returns-in_err-finding-clause-refused g c =
    let a = c.args.asked.now in
    let e = c.in_err-finding.field-0.0 in
    passed_on (λ e. IsRefusal a.before.now.image.heap a.after.now.image.heap a.after.now.stale a.set.now e) c.from_residual.result e c.from_residual.ensures.1
    (of_heaps (λ x y. IsRefusal x y a.after.now.stale a.set.now e) c.sides_of-sides.result.heaps.before.now a.before.now.image.heap c.sides_of-sides.result.heaps.after.now a.after.now.image.heap
    c.sides_of-sides.ensures.before c.sides_of-sides.ensures.after (c.in_err-finding.ensures.refused a.set.now))

pub returns-clause-text : goal.returns-clause-text
returns-clause-text g c = λ order.
    let a = c.args.asked.now in
    let sides = c.sides_of-sides in
    let text = string_bytes c.in_ok-verdict.verdict.text in
    let named = subst AreNamesInOrder (sym sides.ensures.compared)
    (record {
      names = order.names;
      names_after = order.names_after;
      in_order = record { objects_before = order.before.objects; objects_after = order.after.objects; roots = order.before.roots; stale = order.after.stale };
    }) in
    record {
      finding = c.in_ok-finding.finding;
      found = of_heaps (λ x y. IsFinding x y a.after.now.stale c.in_ok-finding.finding) sides.result.heaps.before.now a.before.now.image.heap sides.result.heaps.after.now a.after.now.image.heap
          sides.ensures.before sides.ensures.after c.in_ok-finding.ensures.found;
      text = text;
      answer = subst (λ s. IsAnswer s a c.in_ok-finding.finding c.in_ok-verdict.verdict.status text) sides.ensures.compared (c.in_ok-verdict.ensures.text named);
      taken = subst (λ s. HandedOn s (lists c.in_ok-finding.finding a.all) (g.L.Lines.taken c.args.out.now) (g.L.Lines.taken c.hand_on.new.out) text) sides.ensures.compared (c.in_ok-hand_on.ensures.all named);
    }

pub returns-clause-by_name : goal.returns-clause-by_name
returns-clause-by_name g c = λ x y asks.
    let a = c.args.asked.now in
    let sides = c.sides_of-sides in
    let status = c.in_ok-verdict.verdict.status in
    status_by_name a x y status asks
    (of_heaps (λ h k. IsVerdict h k a.after.now.stale a.set.now a.fill status) sides.result.heaps.before.now a.before.now.image.heap sides.result.heaps.after.now a.after.now.image.heap
    sides.ensures.before sides.ensures.after c.in_ok-verdict.ensures.verdict)
