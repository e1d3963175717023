use Rattle.std.proofs.Common.{inl, subst}
use Rattle.g1_report.specs.declared.reporting.Refused.{Refused}
use Rattle.g1_report.specs.Finding.{IsRefusal}
use Rattle.g1heap_cli.specs.SameReasons.{RefusesWrong}
use Rattle.g1heap_cli.proofs.SameRefused.{unreported, strayed}
use Rattle.g1heap_cli.proofs.sameness.of_refused.Goals as goal

pub returns-in-Fault : goal.returns-in-Fault
returns-in-Fault c is =
    let same = c.args.same.now in
    let b = c.args.asked.now.before.now in
    let a = c.args.asked.now.after.now in
    unreported same b a c.in-Fault.fault (subst (λ (q : Refused). IsRefusal b.image.heap a.image.heap a.stale same.set.items q) c.in-Fault.is is)

pub returns-in-Stale : goal.returns-in-Stale
returns-in-Stale c is =
    let same = c.args.same.now in
    let b = c.args.asked.now.before.now in
    let a = c.args.asked.now.after.now in
    let r = c.refuse_stale.result in
    inl (strayed same b a c.in-Stale.wrong r (subst (λ (q : Refused). IsRefusal b.image.heap a.image.heap a.stale same.set.items q) c.in-Stale.is is)
    (subst (λ n. RefusesWrong n c.in-Stale.wrong r) c.as_str-in-Stale.ensures.value c.refuse_stale.ensures))
