use Rattle.std.proofs.Common.{◌≡◌, Contains, subst}
use Rattle.std.specs.Prelude.{IfNone}
use Rattle.g1_words.specs.Heap.{object_at, objects}
use Rattle.g1_words.specs.declared.object.Object.{Object}
use Rattle.g1_same.proofs.Steps.{some_then}
use Rattle.g1_report.proofs.Starting.{starts, starts_not}
use Rattle.g1_report.proofs.staling.starts_at.Goals as goal

pub returns-in-Some : goal.returns-in-Some
returns-in-Some c =
    let h = c.args.heap.now in
    let a = c.args.address in
    let there = some_then (λ (o : Object). (o ≡ object_at h a) × Contains (objects h) o) c.object_at.result c.in-Some.field-0 c.in-Some.is c.object_at.ensures.found in
    starts h a (subst (λ (o : Object). Contains (objects h) o) there.0 there.1)

pub returns-in-None : goal.returns-in-None
returns-in-None c =
    let h = c.args.heap.now in
    let a = c.args.address in
    starts_not h a c.valid.ensures (subst (λ o. IfNone o (Contains (objects h) (object_at h a) → ⊥)) c.in-None.is c.object_at.ensures.none)
