use Rattle.std.proofs.Common.{◌-◌, Contains, sym, ◌∙◌, subst}
use Rattle.g1_words.specs.Heap.{Heap, object_at, objects}
use Rattle.g1_trace.proofs.Told.{root_named}
use Rattle.g1_trace.proofs.answering.object_of.Goals as goal

pub object-requires : goal.object-requires
object-requires c =
    let h : Heap = c.args.heap.now in
    let e = c.in_ok-value.ensures.value in
    subst (λ x. Contains (objects h) (object_at h (x - 1))) (sym e) (root_named h c.args.root c.valid.ensures c.in_ok-value.ensures.root (λ z. c.if-value-eq0.false (e ∙ z))).there
